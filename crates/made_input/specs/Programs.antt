-- The programs of made input. A place is from 0 on, and its name is one more.
use Rattle.std.specs.Prelude.{ℕ, ◌+◌, ◌%◌, ◌==◌, if◌then◌else◌, [], ◌∷◌, pos}
use Rattle.loda_syntax.specs.Programs.{Text}
use Rattle.loda_syntax.specs.declared.instr.Verb.TheVariants.{Mov, Add, Mul}
use Rattle.loda_syntax.specs.declared.instr.Operand.TheVariants.{Constant, Direct}
use Rattle.loda_syntax.specs.declared.instr.Instr.TheVariants.{Arith, Call}

-- the plain program of a place i: its argument times i + 1, and i more
abbrev pub plain_program : ℕ → Text
plain_program i = Arith Mul (Direct 0) (Constant (pos (i + 1))) ∷ Arith Add (Direct 0) (Constant (pos i)) ∷ []

-- the same by the program of the place before, whose name is i: its value, its argument, and 1 more
abbrev pub calling_program : ℕ → Text
calling_program i =
    Arith Mov (Direct 1) (Direct 0) ∷ Call (Direct 0) i ∷ Arith Add (Direct 0) (Direct 1) ∷ Arith Add (Direct 0) (Constant (pos 1)) ∷ []

-- the first program of a place: every tenth is plain, the others call
abbrev pub first_program : ℕ → Text
first_program i = if i % 10 == 0 then plain_program i else calling_program i
