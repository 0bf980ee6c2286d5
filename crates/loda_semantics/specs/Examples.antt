-- Worked examples.
use Rattle.std.specs.Prelude.{◌≡◌, pos, negsuc, [], ◌∷◌}
use Rattle.std.specs.declared.option.Option.TheVariants.{Some, None}
use Rattle.loda_syntax.specs.declared.instr.Verb.TheVariants as verb
use Rattle.loda_syntax.specs.declared.instr.Instr.TheVariants.{Arith, LoopStart, LoopEnd, Call}
use Rattle.loda_syntax.specs.declared.instr.Operand.TheVariants.{Constant, Direct, Indirect}
use Rattle.loda_syntax.specs.Programs.{Text}
use Rattle.loda_semantics.specs.declared.kinds.FaultKind.TheVariants.{BadCell, Missing}
use Rattle.loda_semantics.specs.Exec.{value, fault, out, Library, run_text}

-- a library without programs
unfoldable pub nothing : Library
nothing q = None

-- mov $1,1 / lpb $0 / sub $0,1 / mov $3,$1 / add $1,$2 / mov $2,$3 / lpe / mov $0,$2
unfoldable pub fibonacci : Text
fibonacci =
    Arith verb.Mov (Direct 1) (Constant (pos 1)) ∷ (LoopStart 0 1 ∷ (Arith verb.Sub (Direct 0) (Constant (pos 1)) ∷ (Arith verb.Mov (Direct 3) (Direct 1)
    ∷ (Arith verb.Add (Direct 1) (Direct 2) ∷ (Arith verb.Mov (Direct 2) (Direct 3) ∷ (LoopEnd ∷ (Arith verb.Mov (Direct 0) (Direct 2) ∷ [])))))))

-- mov $1,2 / lpb $0,2 / sub $1,1 / add $2,1 / lpe / mov $0,$2
unfoldable pub region_of_two : Text
region_of_two =
    Arith verb.Mov (Direct 1) (Constant (pos 2)) ∷ (LoopStart 0 2 ∷ (Arith verb.Sub (Direct 1) (Constant (pos 1)) ∷ (Arith verb.Add (Direct 2) (Constant (pos 1))
    ∷ (LoopEnd ∷ (Arith verb.Mov (Direct 0) (Direct 2) ∷ [])))))

-- seq $0,1
unfoldable pub self_call : Text
self_call = Call (Direct 0) 1 ∷ []

-- every name has the program that calls name 1
unfoldable pub cyclic : Library
cyclic q = Some self_call

-- mov $0,$$0
unfoldable pub indirect : Text
indirect = Arith verb.Mov (Direct 0) (Indirect 0) ∷ []

-- The numbers of Fibonacci: at 0 the only iteration is undone; at 0, 7 and 8 a run takes 5n + 8 steps, and at 9 and 7 fewer don't suffice.
pub record FibonacciRuns : Type 0 where
  pub at_zero : (run_text nothing fibonacci (pos 0) 100).0 ≡ value (pos 0) 8
  pub at_seven : (run_text nothing fibonacci (pos 7) 100).0 ≡ value (pos 13) 43
  pub at_eight : (run_text nothing fibonacci (pos 8) 50).0 ≡ value (pos 21) 48
  pub at_nine_cut : (run_text nothing fibonacci (pos 9) 50).0 ≡ out 50
  pub at_seven_cut : (run_text nothing fibonacci (pos 7) 42).0 ≡ out 42

-- The region falls twice in its second cell, and the third iteration, which makes it negative, is undone.
abbrev pub RegionOfTwoRuns : Type 0
RegionOfTwoRuns = (run_text nothing region_of_two (pos 0) 100).0 ≡ value (pos 2) 15

-- Calls without end use up the steps; a name without a program and a cell out of range are faults with their step.
pub record FaultsAndCycles : Type 0 where
  pub cycle : (run_text cyclic self_call (pos 0) 20).0 ≡ out 20
  pub missing : (run_text nothing self_call (pos 0) 20).0 ≡ fault Missing 1
  pub past_the_cells : (run_text nothing indirect (pos 4096) 20).0 ≡ fault BadCell 1
  pub below_the_cells : (run_text nothing indirect (negsuc 0) 20).0 ≡ fault BadCell 1
