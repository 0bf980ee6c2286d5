-- What a line stands for, or the first of its faults that can be told from the line alone.
--
-- A line is tested in this order, and the first test that it fails gives the kind of its fault. The first eight look at the line
-- alone and are defined here and in Words; the last two look at the lines before it and are defined in Reading.
--     1  Directive        its first byte that isn't a blank is `#`
--     2  UnknownOp        its word is in no table
--     3  Unsupported      its word is refused by name
--     4  BadOperand       the number of operands is wrong, an operand has no form, or a cell is past 4095
--     5  WideLiteral      a number has an absolute value above 2 ^ 127 - 1
--     6  ConstantTarget   the first operand is a number
--     7  Unsupported      the first operand of `lpb` or `clr` is indirect, or the second isn't a number
--     8  BadOperand       a length, a region or a name is out of range, or the second operand of `seq` isn't a number
--     9  LoopClose        an `lpe` has no loop to end
--    10  TooLong          it is instruction 1001
use Rattle.std.specs.Prelude.{ℕ, zero, suc, ℤ, pos, negsuc, ◌+◌, ◌-◌, ◌*◌, ◌^◌, List, [], ◌∷◌, length, map, ◌==◌, ◌||◌, ◌&&◌, nat_le, nat_lt, if◌then◌else◌, Option, Some, None, Result, Ok, Err, Bool, true, false}
use Rattle.std.specs.Char.{is_ascii_digit}
use Rattle.std.specs.List.{list_any, filter_map}
use Rattle.text_parts.specs.Digits.{number_spelled}
use Rattle.loda_syntax.specs.Lines.{content, word_of, operands_of}
use Rattle.loda_syntax.specs.Words.{word_read}
use Rattle.loda_syntax.specs.declared.instr.Operand.{Operand}
use Rattle.loda_syntax.specs.declared.instr.Operand.TheVariants.{Constant, Direct, Indirect}
use Rattle.loda_syntax.specs.declared.operand.Written.{Written}
use Rattle.loda_syntax.specs.declared.operand.Written.TheVariants.{Bad, Wide, Good}
use Rattle.loda_syntax.specs.declared.instr.Instr.{Instr}
use Rattle.loda_syntax.specs.declared.instr.Instr.TheVariants as instr
use Rattle.loda_syntax.specs.declared.word.Word.{Word}
use Rattle.loda_syntax.specs.declared.word.Word.TheVariants.{Operation, Clear, LoopStart, LoopEnd, Call}
use Rattle.loda_syntax.specs.declared.error.SyntaxKind.{SyntaxKind}
use Rattle.loda_syntax.specs.declared.error.SyntaxKind.TheVariants.{BadOperand, WideLiteral, ConstantTarget, Unsupported}
use Rattle.text_parts.specs.declared.names.TheConstants.{GREATEST_NAME}
use Rattle.loda_syntax.specs.declared.instr.TheConstants.{MEMORY_CELLS}
use Rattle.text_parts.specs.Results.{◌>>=◌}

-- ---- an operand

-- minus this number
abbrev pub negative : ℕ → ℤ
negative zero = pos 0
negative (suc n) = negsuc n

-- a number with its sign
abbrev pub signed_by : Bool → ℕ → ℤ
signed_by true n = negative n
signed_by false n = pos n

-- a cell, from its digits: 0 to 4095
abbrev pub in_memory : Option ℕ → Option ℕ
in_memory None = None
in_memory (Some c) = if nat_lt c MEMORY_CELLS then Some c else None

-- the cell that digits spell
abbrev pub cell_of : List ℕ → Option ℕ
cell_of digits = in_memory (number_spelled digits)

-- a cell as an operand of this form, or a bad operand
abbrev pub with_cell : (ℕ → Operand) → Option ℕ → Written
with_cell form None = Bad
with_cell form (Some c) = Good (form c)

-- a number, from its sign and its digits: of absolute value below 2 ^ 127
abbrev pub signed_read : Bool → Option ℕ → Written
signed_read minus None = Bad
signed_read minus (Some n) = if nat_lt n (2 ^ 127) then Good (Constant (signed_by minus n)) else Wide

-- what follows a `$`: the digits of a cell, or another `$` and the digits of the cell that holds the address
abbrev pub after_dollar : List ℕ → Written
after_dollar [] = Bad
after_dollar (b ∷ bs) = if b == 36 then with_cell Indirect (cell_of bs) else with_cell Direct (cell_of (b ∷ bs))

-- an operand: `$` and digits, `$$` and digits, or digits with a `-` before them or none
unfoldable pub operand_read : List ℕ → Written
operand_read [] = Bad
operand_read (b ∷ bs) = if b == 36 then after_dollar bs else (if b == 45 then signed_read true (number_spelled bs) else signed_read false (number_spelled (b ∷ bs)))

-- ---- a line's operands

-- the least and the greatest number of operands that a word takes
abbrev pub least_operands : Word → ℕ
least_operands (Operation verb) = 2
least_operands Clear = 2
least_operands LoopStart = 1
least_operands LoopEnd = 0
least_operands Call = 2

-- the greatest
abbrev pub most_operands : Word → ℕ
most_operands (Operation verb) = 2
most_operands Clear = 2
most_operands LoopStart = 2
most_operands LoopEnd = 0
most_operands Call = 2

-- whether the operand has no form of an operand
abbrev pub is_bad : Written → Bool
is_bad Bad = true
is_bad other = false

-- whether the number is too wide
abbrev pub is_wide : Written → Bool
is_wide Wide = true
is_wide other = false

-- the operand, where it is neither
abbrev pub good_operand : Written → Option Operand
good_operand (Good operand) = Some operand
good_operand other = None

-- the operands as they were read, or the first fault of tests 4 and 5: their number, a form or a cell, then a number that is too wide
unfoldable pub all_read : ℕ → ℕ → List Written → Result (List Operand) SyntaxKind
all_read least most each = if nat_lt (length each) least || nat_lt most (length each) || list_any is_bad each then Err BadOperand else (if list_any is_wide each then Err WideLiteral else Ok (filter_map good_operand each))

-- the operands of these texts, of which there are to be so many
unfoldable pub operands_read : ℕ → ℕ → List (List ℕ) → Result (List Operand) SyntaxKind
operands_read least most texts = all_read least most (map operand_read texts)

-- ---- a line's instruction

-- a region of 1 to 64 cells within memory
abbrev pub loop_over : ℕ → ℤ → Result Instr SyntaxKind
loop_over c (pos n) = if nat_le 1 n && nat_le n 64 && nat_le (c + n) MEMORY_CELLS then Ok (instr.LoopStart c n) else Err BadOperand
loop_over c (negsuc n) = Err BadOperand

-- a region of 0 to 1024 cells within memory
abbrev pub clear_of : ℕ → ℤ → Result Instr SyntaxKind
clear_of c (pos n) = if nat_le n 1024 && nat_le (c + n) MEMORY_CELLS then Ok (instr.Clear c n) else Err BadOperand
clear_of c (negsuc n) = Err BadOperand

-- a name from 1 to 999,999
abbrev pub call_of : Operand → ℤ → Result Instr SyntaxKind
call_of target (pos n) = if nat_le 1 n && nat_le n GREATEST_NAME then Ok (instr.Call target n) else Err BadOperand
call_of target (negsuc n) = Err BadOperand

-- the instruction of a word and as many operands as it takes, or the first fault of tests 6 to 8: a target that is a constant,
-- a region that starts at an indirect cell or whose length isn't a constant, then a length, a region or a name that is out of range
unfoldable pub instr_read : Word → List Operand → Result Instr SyntaxKind
instr_read word [] = Ok instr.LoopEnd
instr_read word (Constant v ∷ operands) = Err ConstantTarget
instr_read LoopStart (Direct c ∷ []) = loop_over c (pos 1)
instr_read LoopStart (Direct c ∷ Constant n ∷ operands) = loop_over c n
instr_read Clear (Direct c ∷ Constant n ∷ operands) = clear_of c n
instr_read Call (target ∷ Constant n ∷ operands) = call_of target n
instr_read Call (target ∷ operands) = Err BadOperand
instr_read (Operation verb) (target ∷ source ∷ operands) = Ok (instr.Arith verb target source)
instr_read word operands = Err Unsupported

-- the instruction of a content that isn't empty, or its first fault
unfoldable pub content_read : List ℕ → Result Instr SyntaxKind
content_read text = do
  word ← word_read (word_of text)
  operands ← operands_read (least_operands word) (most_operands word) (operands_of text)
  instr_read word operands

-- the instruction of a content, nothing where it is empty
abbrev pub of_content : List ℕ → Result (Option Instr) SyntaxKind
of_content [] = Ok None
of_content (b ∷ bs) = content_read (b ∷ bs) >>= λ i. Ok (Some i)

-- the instruction of a line, nothing for a line without one, or its first fault
unfoldable pub line_read : List ℕ → Result (Option Instr) SyntaxKind
line_read line = of_content (content line)
