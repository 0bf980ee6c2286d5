use Rattle.std.specs.Prelude.{Ok, Err}
use Rattle.program_store.specs.Files.{store_read}
use Rattle.loda_mine.specs.declared.status.FileRole.TheVariants.{Store}
use Rattle.loda_mine.specs.declared.status.Status.TheVariants.{BadStore}
use Rattle.loda_mine.proofs.Opened.{parsed_found}
use Rattle.loda_mine.proofs.files.open_store.Goals as goal

pub returns-in-Ok-clause-answer : goal.returns-in-Ok-clause-answer
returns-in-Ok-clause-answer g c = parsed_found Store BadStore store_read _ (g.F.Shelf.known c.store_at.new.shelf) _ (Ok c.in-Ok.store) c.in-Ok.ensures.read

pub returns-in-Err-clause-answer : goal.returns-in-Err-clause-answer
returns-in-Err-clause-answer g c = rw c.store_status.ensures (parsed_found Store BadStore store_read _ (g.F.Shelf.known c.store_at.new.shelf) _ (Err c.in-Err.error) c.in-Err.ensures.read)
