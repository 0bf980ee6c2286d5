-- The cells of a program: the greatest direct one, and the program with a number added to each cell.
use Rattle.std.specs.Prelude.{ℕ, ◌+◌, ◌-◌, max, List, [], ◌∷◌, Bool, true, false, ◌&&◌}
use Rattle.loda_syntax.specs.declared.instr.Operand.{Operand}
use Rattle.loda_syntax.specs.declared.instr.Operand.TheVariants.{Constant, Direct, Indirect}
use Rattle.loda_syntax.specs.declared.instr.Instr.{Instr}
use Rattle.loda_syntax.specs.declared.instr.Instr.TheVariants.{Arith, Clear, LoopStart, LoopEnd, Call}

-- an operand with d added to its cell's number
abbrev pub operand_by : ℕ → Operand → Operand
operand_by d (Constant v) = Constant v
operand_by d (Direct c) = Direct (c + d)
operand_by d (Indirect c) = Indirect (c + d)

-- an instruction with d added to each cell's number
abbrev pub instr_by : ℕ → Instr → Instr
instr_by d (Arith v t s) = Arith v (operand_by d t) (operand_by d s)
instr_by d (Clear c n) = Clear (c + d) n
instr_by d (LoopStart c n) = LoopStart (c + d) n
instr_by d LoopEnd = LoopEnd
instr_by d (Call t q) = Call (operand_by d t) q

-- the program with d added to each cell's number
abbrev pub by : ℕ → List Instr → List Instr
by d [] = []
by d (i ∷ is) = instr_by d i ∷ by d is

-- an operand that is no indirect cell
abbrev pub operand_is_direct : Operand → Bool
operand_is_direct (Constant v) = true
operand_is_direct (Direct c) = true
operand_is_direct (Indirect c) = false

-- an instruction without indirect cells
abbrev pub instr_is_direct : Instr → Bool
instr_is_direct (Arith v t s) = operand_is_direct t && operand_is_direct s
instr_is_direct (Clear c n) = true
instr_is_direct (LoopStart c n) = true
instr_is_direct LoopEnd = true
instr_is_direct (Call t q) = operand_is_direct t

-- no operand is an indirect cell
abbrev pub is_direct : List Instr → Bool
is_direct [] = true
is_direct (i ∷ is) = instr_is_direct i && is_direct is

-- the direct cell of an operand, or 0
abbrev pub operand_top : Operand → ℕ
operand_top (Constant v) = 0
operand_top (Direct c) = c
operand_top (Indirect c) = 0

-- the last cell of a region that starts at c; c itself where it is empty
abbrev pub region_top : ℕ → ℕ → ℕ
region_top c n = c + (n - 1)

-- the greatest direct cell of an instruction, or 0
abbrev pub instr_top : Instr → ℕ
instr_top (Arith v t s) = max (operand_top t) (operand_top s)
instr_top (Clear c n) = region_top c n
instr_top (LoopStart c n) = region_top c n
instr_top LoopEnd = 0
instr_top (Call t q) = operand_top t

-- the greatest direct cell, or 0 where there is none; regions count up to their last cell
abbrev pub top : List Instr → ℕ
top [] = 0
top (i ∷ is) = max (instr_top i) (top is)
