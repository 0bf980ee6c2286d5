-- What it means to run a program: its tree, in a memory, with a number of steps left, in a library of other programs.
use Rattle.std.specs.Prelude.{ℕ, zero, suc, ◌-◌, nat_lt, max, ℤ, if◌then◌else◌}
use Rattle.std.specs.declared.option.Option.{Option}
use Rattle.std.specs.declared.option.Option.TheVariants.{Some, None}
use Rattle.std.specs.declared.result.Result.{Result}
use Rattle.std.specs.declared.result.Result.TheVariants.{Ok, Err}
use Rattle.checked_numbers.specs.declared.ops.Op.{Op}
use Rattle.checked_numbers.specs.declared.ops.Op.TheVariants as op
use Rattle.checked_numbers.specs.declared.ops.NumFault.{NumFault}
use Rattle.checked_numbers.specs.declared.ops.NumFault.TheVariants as num_fault
use Rattle.checked_numbers.specs.Ops.{op_answer}
use Rattle.loda_syntax.specs.declared.instr.Verb.{Verb}
use Rattle.loda_syntax.specs.declared.instr.Verb.TheVariants as verb
use Rattle.loda_syntax.specs.declared.instr.Instr.{Instr}
use Rattle.loda_syntax.specs.declared.instr.Instr.TheVariants.{Arith, Clear, LoopStart, LoopEnd, Call}
use Rattle.loda_syntax.specs.Programs.{Text, instrs}
use Rattle.loda_syntax.specs.Trees.{Tree, end, step, loop, tree_of}
use Rattle.loda_semantics.specs.declared.kinds.FaultKind.{FaultKind}
use Rattle.loda_semantics.specs.declared.kinds.FaultKind.TheVariants.{Overflow, DivideByZero, BadCell, Missing}
use Rattle.loda_semantics.specs.Memory.{Memory, memory_with, set_cell, clear_cells, address, source_value, is_less}

-- how a run ended, with the steps used
pub data Outcome : Type 0 where
  value : ℤ → ℕ → Outcome
  fault : FaultKind → ℕ → Outcome
  out : ℕ → Outcome

-- the calls that a run made, in order: name, argument, what it came to, and the calls that the callee made
pub data Calls : Type 0 where
  none : Calls
  call : ℕ → ℤ → Outcome → Calls → Calls → Calls

-- some calls, and then some more
abbrev pub join : Calls → Calls → Calls
join none later = later
join (call q x o inner rest) later = call q x o inner (join rest later)

-- what running a tree gives: the memory where it is done, and the steps left and the calls made in each case
pub data Ending : Type 0 where
  done : Memory → ℕ → Calls → Ending
  failed : FaultKind → ℕ → Calls → Ending
  spent : ℕ → Calls → Ending

-- the calls made before, and then this
abbrev pub after_calls : Calls → Ending → Ending
after_calls c (done m n d) = done m n (join c d)
after_calls c (failed k n d) = failed k n (join c d)
after_calls c (spent n d) = spent n (join c d)

-- where the first part is done, the next with its memory and its steps left
abbrev pub and_then : Ending → (Memory → ℕ → Ending) → Ending
and_then (done m n c) next = after_calls c (next m n)
and_then (failed k n c) next = failed k n c
and_then (spent n c) next = spent n c

-- a cost is charged before anything else
abbrev pub charge : ℕ → ℕ → (ℕ → Ending) → Ending
charge cost n next = if nat_lt n cost then spent n none else next (n - cost)

-- the operation that a verb names
abbrev pub op_of : Verb → Op
op_of verb.Mov = op.Mov
op_of verb.Add = op.Add
op_of verb.Sub = op.Sub
op_of verb.Trn = op.Trn
op_of verb.Mul = op.Mul
op_of verb.Div = op.Div
op_of verb.Dif = op.Dif
op_of verb.Mod = op.Mod
op_of verb.Pow = op.Pow
op_of verb.Gcd = op.Gcd
op_of verb.Bin = op.Bin
op_of verb.Equ = op.Equ
op_of verb.Neq = op.Neq
op_of verb.Leq = op.Leq
op_of verb.Geq = op.Geq
op_of verb.Min = op.Min
op_of verb.Max = op.Max

-- how a run fails where an operation does
abbrev pub fault_of : NumFault → FaultKind
fault_of num_fault.Overflow = Overflow
fault_of num_fault.DivideByZero = DivideByZero

-- what an operation gave goes into its target
abbrev pub store_in : Memory → ℕ → ℕ → Result ℤ NumFault → Ending
store_in m n a (Ok v) = done (set_cell m a v) n none
store_in m n a (Err e) = failed (fault_of e) n none

-- an operation on the cell of its target and the value of its source, of which an indirect one may lead outside
abbrev pub arithmetic : Verb → Memory → ℕ → Option ℕ → Option ℤ → Ending
arithmetic v m n (Some a) (Some y) = store_in m n a (op_answer (op_of v) (m a) y)
arithmetic v m n None y = failed BadCell n none
arithmetic v m n (Some a) None = failed BadCell n none

-- who answers calls: what the program of a name comes to at an argument with the steps left, and its own calls
abbrev pub Callee : Type 0
Callee = ℕ → ℤ → ℕ → Outcome × Calls

-- a call of q at x that came to this: a value goes into the target, and a fault or the end of the steps is the caller's too
abbrev pub called : ℕ → ℤ → Memory → ℕ → ℕ → Outcome → Calls → Ending
called q x m n a (value v used) inner = done (set_cell m a v) (n - used) (call q x (value v used) inner none)
called q x m n a (fault k used) inner = failed k (n - used) (call q x (fault k used) inner none)
called q x m n a (out used) inner = spent (n - used) (call q x (out used) inner none)

-- a call at the argument that its target holds
abbrev pub call_at : Callee → ℕ → Memory → ℕ → Option ℕ → Ending
call_at callee q m n None = failed BadCell n none
call_at callee q m n (Some a) = let ran = callee q (m a) n in called q (m a) m n a ran.0 ran.1

-- one instruction that is neither end of a loop
abbrev pub single : Callee → Instr → Memory → ℕ → Ending
single callee (Arith v t s) m n = charge 1 n λ n. arithmetic v m n (address m t) (source_value m s)
single callee (Clear c k) m n = charge (max 1 k) n λ n. done (clear_cells m c k) n none
single callee (Call t q) m n = charge 1 n λ n. call_at callee q m n (address m t)
single callee (LoopStart c k) m n = done m n none
single callee LoopEnd m n = done m n none

-- Turns of a loop's body on the region of k cells from c. Each turn charges k, so there are at most `turns` of them
-- where n is less than that.
abbrev pub turns_of : (Memory → ℕ → Ending) → ℕ → ℕ → ℕ → Memory → ℕ → Ending
turns_of body c k zero m n = spent n none
turns_of body c k (suc turns) m n = and_then (body m n) λ new n. charge k n λ n.
    if is_less k c new m then turns_of body c k turns new n else done m n none

-- the meaning of a tree in a memory with n steps left
abbrev pub exec : Callee → Tree → Memory → ℕ → Ending
exec callee end m n = done m n none
exec callee (step i rest) m n = and_then (single callee i m n) (exec callee rest)
exec callee (loop c k body rest) m n = and_then (charge 1 n λ n. turns_of (exec callee body) c k (suc n) m n) (exec callee rest)

-- the outcome of a run that began with n steps, and its calls
abbrev pub outcome_of : ℕ → Ending → Outcome × Calls
outcome_of n (done m left c) = (value (m 0) (n - left), c)
outcome_of n (failed k left c) = (fault k (n - left), c)
outcome_of n (spent left c) = (out (n - left), c)

-- which program a name has
abbrev pub Library : Type 0
Library = ℕ → Option Text

-- The run of the program that a name has, at most `depth` calls deep. Each call costs a step, so n + 1 suffices.
abbrev pub run_deep : Library → ℕ → Option Text → ℤ → ℕ → Outcome × Calls
run_deep lib depth None x n = (fault Missing 0, none)
run_deep lib zero (Some p) x n = (out 0, none)
run_deep lib (suc depth) (Some p) x n = outcome_of n (exec (λ q y k. run_deep lib depth (lib q) y k) (tree_of (instrs p)) (memory_with x) n)

-- the run of a text at an argument with n steps
abbrev pub run_text : Library → Text → ℤ → ℕ → Outcome × Calls
run_text lib p x n = run_deep lib (suc n) (Some p) x n

-- the run of the program that a name has
abbrev pub run_name : Library → ℕ → ℤ → ℕ → Outcome × Calls
run_name lib q x n = run_deep lib (suc n) (lib q) x n
