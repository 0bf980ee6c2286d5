-- The canonical text of a program.
use Rattle.std.specs.Prelude.{ℕ, ◌+◌, ◌-◌, ◌*◌, List, [], ◌∷◌, ◌++◌, replicate, ◌==◌, if◌then◌else◌, pos}
use Rattle.std.specs.Fmt.{decimal, signed_decimal}
use Rattle.loda_syntax.specs.Words.{word_text}
use Rattle.loda_syntax.specs.Programs.{Text, instrs}
use Rattle.loda_syntax.specs.declared.instr.Operand.{Operand}
use Rattle.loda_syntax.specs.declared.instr.Operand.TheVariants.{Constant, Direct, Indirect}
use Rattle.loda_syntax.specs.declared.instr.Instr.{Instr}
use Rattle.loda_syntax.specs.declared.instr.Instr.TheVariants.{Arith, Clear, LoopStart, LoopEnd, Call}
use Rattle.loda_syntax.specs.declared.word.Word.{Word}
use Rattle.loda_syntax.specs.declared.word.Word.TheVariants as word

-- an operand: a decimal number, or a cell behind one `$` or two
abbrev pub operand_text : Operand → List ℕ
operand_text (Constant v) = signed_decimal v
operand_text (Direct c) = 36 ∷ decimal c
operand_text (Indirect c) = 36 ∷ 36 ∷ decimal c

-- the word that an instruction begins with
abbrev pub instr_word : Instr → Word
instr_word (Arith verb t s) = word.Operation verb
instr_word (Clear c n) = word.Clear
instr_word (LoopStart c n) = word.LoopStart
instr_word LoopEnd = word.LoopEnd
instr_word (Call t q) = word.Call

-- the operands that are written: a loop over one cell is written without its length
abbrev pub instr_operands : Instr → List Operand
instr_operands (Arith verb t s) = t ∷ s ∷ []
instr_operands (Clear c n) = Direct c ∷ Constant (pos n) ∷ []
instr_operands (LoopStart c n) = if n == 1 then Direct c ∷ [] else Direct c ∷ Constant (pos n) ∷ []
instr_operands LoopEnd = []
instr_operands (Call t q) = t ∷ Constant (pos q) ∷ []

-- each operand behind the sign that stands before it: a space before the first, a comma before the others
abbrev pub operand_texts : ℕ → List Operand → List ℕ
operand_texts sign [] = []
operand_texts sign (o ∷ os) = sign ∷ operand_text o ++ operand_texts 44 os

-- an instruction without its indentation
unfoldable pub instr_text : Instr → List ℕ
instr_text instr = word_text (instr_word instr) ++ operand_texts 32 (instr_operands instr)

-- how many loops are open around an instruction's line, where there are so many before it: an end stands outside its loop
abbrev pub depth_at : ℕ → Instr → ℕ
depth_at depth LoopEnd = depth - 1
depth_at depth other = depth

-- and after it
abbrev pub depth_after : ℕ → Instr → ℕ
depth_after depth (LoopStart c n) = depth + 1
depth_after depth LoopEnd = depth - 1
depth_after depth other = depth

-- a line: two spaces for each open loop, the instruction, LF
unfoldable pub line_text : ℕ → Instr → List ℕ
line_text depth instr = replicate (2 * depth_at depth instr) 32 ++ instr_text instr ++ 10 ∷ []

-- the lines of instructions, where so many loops are open before them
unfoldable pub lines_text : ℕ → List Instr → List ℕ
lines_text depth [] = []
lines_text depth (i ∷ is) = line_text depth i ++ lines_text (depth_after depth i) is

-- the canonical text
unfoldable pub canon : Text → List ℕ
canon program = lines_text 0 (instrs program)
