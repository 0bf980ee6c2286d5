-- Which lists of instructions are programs.
use Rattle.std.specs.Prelude.{ℕ, zero, suc, ◌+◌, ◌^◌, ◌<◌, ◌≤◌, ◌≡◌, unsigned_abs, List, [], ◌∷◌, length, All, Option, Some, None}
use Rattle.text_parts.specs.declared.names.TheConstants.{GREATEST_NAME}
use Rattle.loda_syntax.specs.declared.instr.Operand.{Operand}
use Rattle.loda_syntax.specs.declared.instr.Operand.TheVariants.{Constant, Direct, Indirect}
use Rattle.loda_syntax.specs.declared.instr.Instr.{Instr}
use Rattle.loda_syntax.specs.declared.instr.Instr.TheVariants.{Arith, Clear, LoopStart, LoopEnd, Call}
use Rattle.loda_syntax.specs.declared.instr.TheConstants.{MEMORY_CELLS, MOST_INSTRS}

-- an operand that may be written to: a cell from 0 to 4095, or one that holds the address
abbrev pub IsTarget : Operand → Type 0
IsTarget (Constant v) = ⊥
IsTarget (Direct c) = c < MEMORY_CELLS
IsTarget (Indirect c) = c < MEMORY_CELLS

-- an operand that may be read: such a cell, or a constant in the number range
abbrev pub IsSource : Operand → Type 0
IsSource (Constant v) = unsigned_abs v < 2 ^ 127
IsSource (Direct c) = c < MEMORY_CELLS
IsSource (Indirect c) = c < MEMORY_CELLS

-- the instruction by itself: its operands, its region and its name are in range
abbrev pub IsInstr : Instr → Type 0
IsInstr (Arith v t s) = IsTarget t × IsSource s
IsInstr (Clear c n) = (n ≤ 1024) × (c + n ≤ MEMORY_CELLS) × (c < MEMORY_CELLS)
IsInstr (LoopStart c n) = (1 ≤ n) × (n ≤ 64) × (c + n ≤ MEMORY_CELLS)
IsInstr LoopEnd = Unit {0}
IsInstr (Call t q) = IsTarget t × (1 ≤ q) × (q ≤ GREATEST_NAME)

-- read from its start with `depth` loops open, the list ends each loop that it starts, and no other
abbrev pub IsBalanced : ℕ → List Instr → Type 0
IsBalanced depth [] = depth ≡ 0
IsBalanced depth (LoopStart c n ∷ is) = IsBalanced (suc depth) is
IsBalanced zero (LoopEnd ∷ is) = ⊥
IsBalanced (suc depth) (LoopEnd ∷ is) = IsBalanced depth is
IsBalanced depth (Arith v t s ∷ is) = IsBalanced depth is
IsBalanced depth (Clear c n ∷ is) = IsBalanced depth is
IsBalanced depth (Call t q ∷ is) = IsBalanced depth is

-- how many loops are open after the list, where so many are open before it; nothing where it ends a loop that isn't there
abbrev pub open_loops : ℕ → List Instr → Option ℕ
open_loops depth [] = Some depth
open_loops depth (LoopStart c n ∷ is) = open_loops (suc depth) is
open_loops zero (LoopEnd ∷ is) = None
open_loops (suc depth) (LoopEnd ∷ is) = open_loops depth is
open_loops depth (Arith v t s ∷ is) = open_loops depth is
open_loops depth (Clear c n ∷ is) = open_loops depth is
open_loops depth (Call t q ∷ is) = open_loops depth is

-- a well-formed list of instructions
pub record IsProgram (is : List Instr) : Type 0 where
  pub short : length is ≤ MOST_INSTRS
  pub each : All IsInstr is
  pub balanced : IsBalanced 0 is
