use Rattle.std.specs.Prelude.{Ok, Err}
use Rattle.loda_mine.proofs.Opened.{terms_found}
use Rattle.loda_mine.proofs.files.open_terms.Goals as goal

pub returns-in-Ok-clause-answer : goal.returns-in-Ok-clause-answer
returns-in-Ok-clause-answer g c = terms_found _ (g.F.Shelf.known c.terms_at.new.shelf) _ (Ok c.in-Ok.terms) c.in-Ok.ensures.read

pub returns-in-Err-clause-answer : goal.returns-in-Err-clause-answer
returns-in-Err-clause-answer g c = rw c.terms_status.ensures (terms_found _ (g.F.Shelf.known c.terms_at.new.shelf) _ (Err c.in-Err.error) c.in-Err.ensures.read)
