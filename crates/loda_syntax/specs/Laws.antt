-- Which bytes are a text of which program, and which fault is a text's first.
use Rattle.std.specs.Prelude.{◌≡◌, ℕ, ◌+◌, ◌≤◌, ◌⊎◌, List, [], ◌∷◌, ◌++◌, length, map, Option, Some, None, IsSome, Result, Ok, Err}
use Rattle.std.specs.List.{filter_map}
use Rattle.loda_syntax.specs.Lines.{text_lines}
use Rattle.loda_syntax.specs.Grammar.{line_read}
use Rattle.loda_syntax.specs.Programs.{Text, instrs}
use Rattle.loda_syntax.specs.Reading.{text_read}
use Rattle.loda_syntax.specs.Canon.{canon}
use Rattle.loda_syntax.specs.WellFormed.{IsProgram, IsBalanced, open_loops}
use Rattle.loda_syntax.specs.declared.instr.Instr.{Instr}
use Rattle.loda_syntax.specs.declared.instr.Instr.TheVariants.{LoopStart}
use Rattle.loda_syntax.specs.declared.error.SyntaxKind.{SyntaxKind}
use Rattle.loda_syntax.specs.declared.error.SyntaxKind.TheVariants as kinds
use Rattle.loda_syntax.specs.declared.error.ParseError.{ParseError}
use Rattle.loda_syntax.specs.declared.error.ParseError.TheVariants as errors
use Rattle.loda_syntax.specs.declared.instr.TheConstants.{MOST_INSTRS}

-- none of the lines has a fault of its own, and these are their instructions, in their order
pub record Stand (texts : List (List ℕ)) (is : List Instr) : Type 0 where
  pub read : List (Option Instr)
  pub each : map line_read texts ≡ map (λ o. Ok o) read
  pub list : is ≡ filter_map (λ o. o) read

-- the bytes are a text of the program: its lines are its instructions, and the list of them is well formed
pub record IsTextOf (bytes : List ℕ) (program : Text) : Type 0 where
  pub stand : Stand (text_lines bytes) (instrs program)
  pub formed : IsProgram (instrs program)

-- the lines so far have no fault, and these are their instructions
pub record Begin (texts : List (List ℕ)) (is : List Instr) : Type 0 where
  pub stand : Stand texts is
  pub short : length is ≤ MOST_INSTRS
  pub ends : IsSome (open_loops 0 is)

-- the first fault of a line behind these instructions, from what is read of the line alone, by tests 9 and 10: an end without
-- a loop to end, then instruction 1001
abbrev pub IsFirstFault : List Instr → Result (Option Instr) SyntaxKind → SyntaxKind → Type 0
IsFirstFault before (Err own) kind = kind ≡ own
IsFirstFault before (Ok None) kind = ⊥
IsFirstFault before (Ok (Some i)) kind = ((open_loops 0 (before ++ i ∷ []) ≡ None) × (kind ≡ kinds.LoopClose)) ⊎ (IsSome (open_loops 0 (before ++ i ∷ [])) × (MOST_INSTRS ≤ length before) × (kind ≡ kinds.TooLong))

-- the line has this fault, and no line before it has any
pub record BadLine (bytes : List ℕ) (line : ℕ) (kind : SyntaxKind) : Type 0 where
  pub before : List (List ℕ)
  pub text : List ℕ
  pub after : List (List ℕ)
  pub cut : text_lines bytes ≡ before ++ text ∷ after
  pub number : line ≡ length before + 1
  pub list : List Instr
  pub begin : Begin before list
  pub fault : IsFirstFault list (line_read text) kind

-- no line has a fault, and the line starts the innermost loop that isn't ended: each loop behind it is
pub record OpenLine (bytes : List ℕ) (line : ℕ) : Type 0 where
  pub before : List (List ℕ)
  pub text : List ℕ
  pub after : List (List ℕ)
  pub cut : text_lines bytes ≡ before ++ text ∷ after
  pub number : line ≡ length before + 1
  pub list : List Instr
  pub begin : Begin (text_lines bytes) list
  pub start : ℕ
  pub len : ℕ
  pub starts : line_read text ≡ Ok (Some (LoopStart start len))
  pub inner : List Instr
  pub stand : Stand after inner
  pub ended : IsBalanced 0 inner

-- the text's first fault
abbrev pub BadText : List ℕ → ℕ → SyntaxKind → Type 0
BadText bytes line kind = BadLine bytes line kind ⊎ ((kind ≡ kinds.LoopOpen) × OpenLine bytes line)

-- the fault is the text's first
abbrev pub IsCause : List ℕ → ParseError → Type 0
IsCause bytes (errors.Syntax line kind) = BadText bytes line kind
IsCause bytes errors.Memory = Unit {0}

-- the canonical text of a program reads as that program
abbrev pub CanonReadsBack : Text → Type 0
CanonReadsBack program = text_read (canon program) ≡ Ok program

-- the text has a program or a first fault, one alone, and never both
pub record HasOneMeaning (bytes : List ℕ) : Type 0 where
  pub some : ((program : Text) × IsTextOf bytes program) ⊎ ((line : ℕ) × (kind : SyntaxKind) × BadText bytes line kind)
  pub one_program : (p q : Text) → IsTextOf bytes p → IsTextOf bytes q → p ≡ q
  pub one_fault : (m n : ℕ) (j k : SyntaxKind) → BadText bytes m j → BadText bytes n k → (m ≡ n) × (j ≡ k)
  pub never_both : (p : Text) (n : ℕ) (k : SyntaxKind) → IsTextOf bytes p → BadText bytes n k → ⊥

-- what the text reads as prints, and reads again as the same program
abbrev pub ReadsAgain : List ℕ → Type 0
ReadsAgain bytes = (program : Text) → IsTextOf bytes program → CanonReadsBack program
