use Rattle.std.specs.Prelude.{Ok, Err}
use Rattle.program_store.specs.Files.{candidates_read}
use Rattle.loda_mine.specs.declared.status.FileRole.TheVariants.{Candidates}
use Rattle.loda_mine.specs.declared.status.Status.TheVariants.{BadCandidates}
use Rattle.loda_mine.proofs.Opened.{parsed_found}
use Rattle.loda_mine.proofs.files.open_candidates.Goals as goal

pub returns-in-Ok-clause-answer : goal.returns-in-Ok-clause-answer
returns-in-Ok-clause-answer g c = parsed_found Candidates BadCandidates candidates_read _ (g.F.Shelf.known c.candidates_at.new.shelf) _ (Ok c.in-Ok.candidates) c.in-Ok.ensures.read

pub returns-in-Err-clause-answer : goal.returns-in-Err-clause-answer
returns-in-Err-clause-answer g c = rw c.candidates_status.ensures (parsed_found Candidates BadCandidates candidates_read _ (g.F.Shelf.known c.candidates_at.new.shelf) _ (Err c.in-Err.error) c.in-Err.ensures.read)
