-- How far a run has come, and what one instruction does to it. Only clauses of private functions use what stands here.
use Rattle.std.specs.Prelude.{ℕ, suc, ◌+◌, ◌<◌, ◌≤◌, ◌≡◌, ◌≢◌, ℤ, List, [], ◌∷◌, ◌++◌, reverse, drop, length, vec_len, vec_capacity}
use Rattle.std.specs.declared.option.Option.{Option}
use Rattle.std.specs.declared.option.Option.TheVariants.{Some, None}
use Rattle.loda_syntax.specs.declared.instr.Instr.{Instr}
use Rattle.loda_syntax.specs.declared.instr.Instr.TheVariants.{LoopEnd}
use Rattle.loda_syntax.specs.WellFormed.{IsBalanced}
use Rattle.loda_syntax.specs.Trees.{Tree, trees, rest_of}
use Rattle.loda_semantics.specs.declared.kinds.FaultKind.TheVariants.{Missing}
use Rattle.loda_semantics.specs.Memory.{Memory, set_cell}
use Rattle.loda_semantics.specs.Exec.{none, Ending, done, failed, spent, Callee, called}
use Rattle.lex_loops.specs.declared.marks.Mark.{Mark}
use Rattle.lex_loops.specs.declared.progress.Progress.{Progress}
use Rattle.lex_loops.specs.declared.stop.Stop.{Stop}
use Rattle.lex_loops.specs.declared.stop.Stop.TheVariants as stop
use Rattle.lex_loops.specs.declared.cells.Written.{Written}
use Rattle.lex_loops.specs.Memories.{memory_of, IsWithin, Shortens}
use Rattle.lex_loops.specs.State.{OpenLoop, loops_of_marks, run_from, StopsAs}
use Rattle.loda_syntax.specs.declared.instr.TheConstants.{MEMORY_CELLS}

-- the memory of a run
abbrev pub memory_in : Progress → Memory
memory_in run = memory_of run.cells.values.items

-- its open loops
abbrev pub loops_in : Progress → List OpenLoop
loops_in run = loops_of_marks run.cells.log.items (memory_in run) (reverse run.marks.items)

-- the rest of the run with n steps left
abbrev pub run_in : Callee → List Instr → Progress → ℕ → Ending
run_in callee list run n = run_from callee list run.at (loops_in run) (memory_in run) n

-- the same with a value in the target
abbrev pub answered_in : Callee → List Instr → Progress → ℤ → ℕ → Ending
answered_in callee list run v n = run_from callee list run.at (loops_in run) (set_cell (memory_in run) run.target v) n

-- What keeps a mark of use: its loop is followed by what the run has left after it, which is given, its body ends as many
-- loops as are open in it, its place in the log is not past those of the loops inside, and its region lies in the cells.
pub record IsMark (list : List Instr) (after : List Tree) (top depth : ℕ) (mark : Mark) : Type 0 where
  pub follows : rest_of (trees (drop mark.body list)) ≡ after
  pub balanced : IsBalanced (suc depth) (drop mark.body list)
  pub logged : mark.logged ≤ top
  pub some : 1 ≤ mark.len
  pub region : mark.start + mark.len ≤ MEMORY_CELLS

-- the marks of the open loops, the innermost first
abbrev pub AreLoopMarks : List Instr → List Tree → ℕ → List Mark → Type 0
AreLoopMarks list after top [] = Unit {0}
AreLoopMarks list after top (mark ∷ marks) = IsMark list after top (length marks) mark × AreLoopMarks list (rest_of after) mark.logged marks

-- A run on its way through a list: as many loops are open as are ended from here on, and the marks are theirs.
pub record IsUnderWay (list : List Instr) (run : Progress) : Type 0 where
  pub balanced : IsBalanced (length run.marks.items) (drop run.at list)
  pub marks : AreLoopMarks list (rest_of (trees (drop run.at list))) (length run.cells.log.items) (reverse run.marks.items)
  pub within : IsWithin (length run.cells.values.items) run.cells.log.items

-- room for an answer
pub record HasRoom (run : Progress) : Type 0 where
  pub target : run.target < length run.cells.values.items
  pub log : 0 < length run.marks.items → vec_len run.cells.log < vec_capacity run.cells.log

-- what one instruction did, with the memory and the steps left that it leaves, and the target of its answer
abbrev pub Does : (Callee → Ending) → Option Stop → ℕ → Memory → ℕ → Type 0
Does run None left m a = (callee : Callee) → run callee ≡ done m left none
Does run (Some (stop.Done v)) left m a = ⊥
Does run (Some (stop.Call q x)) left m a = (callee : Callee) → run callee ≡ (let ran = callee q x left in called q x m left a ran.0 ran.1)
Does run (Some (stop.Fault k)) left m a = (callee : Callee) → run callee ≡ failed k left none
Does run (Some stop.Spent) left m a = (callee : Callee) → run callee ≡ spent left none

-- what a step of the run did: it went on, or it stopped
abbrev pub StepsTo : List Instr → Progress → ℕ → Option Stop → ℕ → Progress → Type 0
StepsTo list old n None left new = (callee : Callee) → run_in callee list old n ≡ run_in callee list new left
StepsTo list old n (Some s) left new = StopsAs (λ callee. run_in callee list old n) s left (λ callee. answered_in callee list new)

-- After a step that goes on, and at a call, the run is on its way; at a call it has room for the answer.
abbrev pub KeepsOn : List Instr → Option Stop → Progress → Type 0
KeepsOn list None run = IsUnderWay list run
KeepsOn list (Some (stop.Call q x)) run = IsUnderWay list run × HasRoom run
KeepsOn list (Some (stop.Done v)) run = Unit {0}
KeepsOn list (Some (stop.Fault k)) run = Unit {0}
KeepsOn list (Some stop.Spent) run = Unit {0}

-- the instruction at a place of a list
abbrev pub IsAt : List Instr → ℕ → Instr → Type 0
IsAt list at i = drop at list ≡ i ∷ drop (suc at) list

-- what a step did, and that it goes on from there
abbrev pub Steps : List Instr → Progress → ℕ → Option Stop → ℕ → Progress → Type 0
Steps list old n stop left new = StepsTo list old n stop left new × KeepsOn list stop new

-- What this instruction does, in whatever list it stands at the run's place.
abbrev pub Acts : Instr → Progress → ℕ → Option Stop → ℕ → Progress → Type 0
Acts i old n stop left new = (list : List Instr) → IsAt list old.at i → IsUnderWay list old → Steps list old n stop left new

-- The run stands at the end of a loop.
pub record IsAtEnd (run : Progress) : Type 0 where
  pub list : List Instr
  pub here : IsAt list run.at LoopEnd
  pub under_way : IsUnderWay list run

-- the mark as the log is this long
abbrev pub marked_anew : Mark → ℕ → Mark
marked_anew mark n = record mark { logged = n }

-- The new log serves the open loops of these marks as the old one does.
abbrev pub Serves : List Mark → List Written → List Written → Type 0
Serves marks old new = (outer : List Mark) (last : Mark) → marks ≡ outer ++ last ∷ [] → Shortens last.logged old new

-- each mark's place in the log is not past the log's end
abbrev pub HasLogged : List Mark → List Written → Type 0
HasLogged marks log = (outer : List Mark) (last : Mark) → marks ≡ outer ++ last ∷ [] → last.logged ≤ length log

-- No program is missed by an instruction of its own list: the fault Missing is a callee's alone.
abbrev pub IsOwn : Option Stop → Type 0
IsOwn None = Unit {0}
IsOwn (Some (stop.Done v)) = Unit {0}
IsOwn (Some (stop.Call q x)) = Unit {0}
IsOwn (Some (stop.Fault k)) = k ≢ Missing
IsOwn (Some stop.Spent) = Unit {0}

-- a run that has not begun yet, with the argument in cell 0
pub record IsAtStart (x : ℤ) (run : Progress) : Type 0 where
  pub at : run.at ≡ 0
  pub cells : run.cells.values.items ≡ x ∷ []
  pub log : run.cells.log.items ≡ []
  pub marks : run.marks.items ≡ []

-- The run has taken an answer, in whatever list it is on its way through.
abbrev pub HasTaken : Progress → ℤ → Progress → Type 0
HasTaken old v new = (list : List Instr) → IsUnderWay list old → IsUnderWay list new × ((callee : Callee) (n : ℕ) → run_in callee list new n ≡ answered_in callee list old v n)
