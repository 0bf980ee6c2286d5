-- What holds of every machine.
use Rattle.std.specs.Prelude.{◌<◌, length, reverse}
use Rattle.loda_syntax.specs.Programs.{Text, instrs}
use Rattle.lex_loops.specs.declared.progress.Progress.{Progress}
use Rattle.lex_loops.specs.declared.stop.Phase.{Phase}
use Rattle.lex_loops.specs.declared.stop.Phase.TheVariants.{Ready, Waiting, Ended}
use Rattle.lex_loops.specs.State.{MachineState}
use Rattle.lex_loops.specs.Steps.{IsUnderWay, HasRoom}

-- where a machine stands, by its parts
abbrev pub machine_state : Text → Progress → Phase → MachineState
machine_state p run phase = record {
  program = p;
  at = run.at;
  cells = run.cells.values.items;
  log = run.cells.log.items;
  marks = reverse run.marks.items;
  phase = phase;
  target = run.target;
}

-- A machine that is not ended is on its way through its program; one that waits has room for the answer.
abbrev pub IsRunning : Text → Progress → Phase → Type 0
IsRunning p run Ready = IsUnderWay (instrs p) run
IsRunning p run Waiting = IsUnderWay (instrs p) run × HasRoom run
IsRunning p run Ended = Unit {0}

-- it keeps a cell at least, and is on its way where it is not ended
pub record IsSound (p : Text) (run : Progress) (phase : Phase) : Type 0 where
  pub cells : 0 < length run.cells.values.items
  pub running : IsRunning p run phase
