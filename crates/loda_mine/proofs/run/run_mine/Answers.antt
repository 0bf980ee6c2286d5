use Rattle.command_words.proofs.Tasks.{is_mine}
use Rattle.loda_mine.proofs.Ends.{usage_is, write_failed, read_failed, nothing_written}
use Rattle.loda_mine.proofs.Exact.{exactly, complete, done_wrote, mine_headline}
use Rattle.loda_mine.proofs.First.{first_stop, earlier_opened}
use Rattle.loda_mine.proofs.OneOutput.{one_mine_output}
use Rattle.loda_mine.proofs.run.run_mine.Goals as goal

pub returns-clause-usage : goal.returns-clause-usage
returns-clause-usage g c = usage_is _ _ _ _ _ c.run_workers.result c.run_workers.ensures.run

pub returns-clause-read : goal.returns-clause-read
returns-clause-read g c = λ file e. read_failed _ _ _ _ _ file (rw e at c.run_workers.ensures.run)

pub returns-clause-write : goal.returns-clause-write
returns-clause-write g c = λ e. write_failed _ _ _ _ _ (rw e at c.run_workers.ensures.run)

pub returns-clause-nothing : goal.returns-clause-nothing
returns-clause-nothing g c = λ n m. nothing_written _ _ _ _ _ c.run_workers.result c.run_workers.ensures.run n m

pub returns-clause-exact : goal.returns-clause-exact
returns-clause-exact g c = λ request files is tells. exactly _ _ _ _ _ c.run_workers.result request files c.run_workers.ensures.run is tells

pub returns-clause-complete : goal.returns-clause-complete
returns-clause-complete g c = λ request files inside is opens ready none. complete _ _ _ _ _ c.run_workers.result request files inside c.run_workers.ensures.run is opens ready none

pub returns-clause-done : goal.returns-clause-done
returns-clause-done g c = λ request files is tells e. done_wrote _ _ _ _ _ request files (rw e at c.run_workers.ensures.run) is tells

pub returns-clause-one : goal.returns-clause-one
returns-clause-one g c = λ asks inside seed jobs is. one_mine_output asks inside seed jobs is

pub returns-clause-before : goal.returns-clause-before
returns-clause-before g c = λ asks file earlier bytes is e order tells. earlier_opened _ _ _ _ _ asks file earlier bytes (rw e at c.run_workers.ensures.run) is order tells

pub returns-clause-first : goal.returns-clause-first
returns-clause-first g c = λ asks files file s is tells stop. first_stop _ _ _ _ _ c.run_workers.result asks files file s c.run_workers.ensures.run is tells stop

pub returns-clause-headline : goal.returns-clause-headline
returns-clause-headline g c = λ asks files is tells e. mine_headline _ _ _ _ _ asks files (rw e at c.run_workers.ensures.run) is (is_mine _ asks is) tells
