-- Where a run stands, and what its rest means.
use Rattle.std.specs.Prelude.{ℕ, suc, ◌+◌, ◌-◌, ◌≤◌, ◌≡◌, ℤ, max, if◌then◌else◌, List, [], ◌∷◌, drop}
use Rattle.loda_syntax.specs.Programs.{Text, instrs}
use Rattle.loda_syntax.specs.declared.instr.Instr.{Instr}
use Rattle.loda_syntax.specs.declared.instr.Instr.TheVariants.{Arith, Clear, LoopStart, LoopEnd}
use Rattle.loda_syntax.specs.declared.instr.Instr.TheVariants as instr
use Rattle.loda_syntax.specs.Trees.{Tree, trees, tree_of, first_tree, rest_of}
use Rattle.loda_semantics.specs.Memory.{Memory, memory_with, set_cell, is_less}
use Rattle.loda_semantics.specs.Exec.{Outcome, value, fault, out, Calls, none, call, Ending, done, failed, spent, and_then, after_calls, charge, Callee, turns_of, exec}
use Rattle.lex_loops.specs.declared.cells.Written.{Written}
use Rattle.lex_loops.specs.declared.marks.Mark.{Mark}
use Rattle.lex_loops.specs.declared.stop.Stop.{Stop}
use Rattle.lex_loops.specs.declared.stop.Stop.TheVariants.{Done, Call, Fault, Spent}
use Rattle.lex_loops.specs.declared.stop.Phase.{Phase}
use Rattle.lex_loops.specs.declared.stop.Phase.TheVariants.{Waiting, Ended}
use Rattle.lex_loops.specs.Memories.{memory_of, before}

-- a loop that is open: where its body begins, its region, and the memory when the iteration began
pub record OpenLoop : Type 0 where
  pub body : ℕ
  pub start : ℕ
  pub len : ℕ
  pub memory : Memory

-- a machine: its program, the next instruction, the cells, the undo log with the oldest write first, the marks of the
-- open loops with the innermost first, the phase, and where an answer goes
pub record MachineState : Type 0 where
  pub program : Text
  pub at : ℕ
  pub cells : List ℤ
  pub log : List Written
  pub marks : List Mark
  pub phase : Phase
  pub target : ℕ

-- the open loops that marks stand for: the memory of each is that before the writes since its mark
abbrev pub open_loop : List Written → Memory → Mark → OpenLoop
open_loop log m mark = record { body = mark.body; start = mark.start; len = mark.len; memory = before (drop mark.logged log) m }

-- those of a list of marks
abbrev pub loops_of_marks : List Written → Memory → List Mark → List OpenLoop
loops_of_marks log m [] = []
loops_of_marks log m (mark ∷ marks) = open_loop log m mark ∷ loops_of_marks log m marks

-- the rest of the innermost loop's body having been run, the rest of the run: the turns to come, and what follows the loop
abbrev pub finish : Callee → List Instr → List Tree → List OpenLoop → Ending → Ending
finish callee list ts [] r = r
finish callee list ts (o ∷ os) r =
    let body = exec callee (first_tree (trees (drop o.body list))) in
    finish callee list (rest_of ts) os (and_then (and_then r λ new n. charge o.len n λ n.
    if is_less o.len o.start new o.memory then turns_of body o.start o.len (suc n) new n else done o.memory n none)
    (exec callee (first_tree ts)))

-- the rest of the run from a place of a list on, with this memory and n steps left, the calls being answered by the callee
abbrev pub run_from : Callee → List Instr → ℕ → List OpenLoop → Memory → ℕ → Ending
run_from callee list at loops m n =
    let ts = trees (drop at list) in
    finish callee list (rest_of ts) loops (exec callee (first_tree ts) m n)

-- the open loops of a machine
abbrev pub loops_of : MachineState → List OpenLoop
loops_of st = loops_of_marks st.log (memory_of st.cells) st.marks

-- the rest of a machine's run with n steps left
abbrev pub run_on : Callee → MachineState → ℕ → Ending
run_on callee st n = run_from callee (instrs st.program) st.at (loops_of st) (memory_of st.cells) n

-- the same once the call that it waits for was answered with a value
abbrev pub run_answered : Callee → MachineState → ℤ → ℕ → Ending
run_answered callee st v n = run_from callee (instrs st.program) st.at (loops_of st) (set_cell (memory_of st.cells) st.target v) n

-- a call of q at x with n steps left, which the callee answers, and then the rest
abbrev pub answered_by : ℕ → ℤ → ℕ → (ℤ → ℕ → Ending) → Outcome × Calls → Ending
answered_by q x n next (value v used, inner) = after_calls (call q x (value v used) inner none) (next v (n - used))
answered_by q x n next (fault k used, inner) = failed k (n - used) (call q x (fault k used) inner none)
answered_by q x n next (out used, inner) = spent (n - used) (call q x (out used) inner none)

-- The machine stands at the start of the program with this argument: whoever answers the calls, its run is the program's.
abbrev pub Begins : MachineState → Text → ℤ → Type 0
Begins st p x = (callee : Callee) (n : ℕ) → run_on callee st n ≡ exec callee (tree_of (instrs p)) (memory_with x) n

-- What a stop says of a run, with the steps left and what follows an answer: whoever answers the calls, the run is this.
abbrev pub StopsAs : (Callee → Ending) → Stop → ℕ → (Callee → ℤ → ℕ → Ending) → Type 0
StopsAs run (Done v) left next = (callee : Callee) → (m : Memory) × (run callee ≡ done m left none) × (m 0 ≡ v)
StopsAs run (Call q x) left next = (callee : Callee) → run callee ≡ answered_by q x left (next callee) (callee q x left)
StopsAs run (Fault k) left next = (callee : Callee) → run callee ≡ failed k left none
StopsAs run Spent left next = (callee : Callee) → run callee ≡ spent left none

-- The rest of the run from `old` with n steps left is what the stop says, with `left` of them left at the machine `new`.
abbrev pub Advances : MachineState → ℕ → Stop → ℕ → MachineState → Type 0
Advances old n stop left new = StopsAs (λ callee. run_on callee old n) stop left (λ callee. run_answered callee new)

-- The machine has taken its answer: the rest of its run is what was to follow that answer.
abbrev pub TakesAnswer : MachineState → ℤ → MachineState → Type 0
TakesAnswer old v new = (callee : Callee) (n : ℕ) → run_on callee new n ≡ run_answered callee old v n

-- the steps that an instruction is charged before it acts; the end of a loop, which is charged its loop's region and takes no
-- memory, has none here
abbrev pub cost_of : Instr → ℕ
cost_of (Arith v t s) = 1
cost_of (Clear c k) = max 1 k
cost_of (LoopStart c k) = 1
cost_of LoopEnd = 0
cost_of (instr.Call t q) = 1

-- Where `left` steps are left and the next place is `next`, the instruction before that place was charged and did not act:
-- whoever answers the calls, the run is that from this instruction on with its cost, of a step or more, besides.
pub record IsCharged (list : List Instr) (run : Callee → Ending) (left next : ℕ) : Type 0 where
  pub at : ℕ
  pub here : Instr
  pub loops : List OpenLoop
  pub memory : Memory
  pub past : next ≡ suc at
  pub stands : drop at list ≡ here ∷ drop (suc at) list
  pub costs : 1 ≤ cost_of here
  pub rest : (callee : Callee) → run callee ≡ run_from callee list at loops memory (left + cost_of here)

-- what may be asked of a machine after a stop
abbrev pub phase_after : Stop → Phase
phase_after (Done v) = Ended
phase_after (Call q x) = Waiting
phase_after (Fault k) = Ended
phase_after Spent = Ended
