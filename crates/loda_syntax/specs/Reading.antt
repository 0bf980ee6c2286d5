-- What a text stands for: its program, or its first fault.
use Rattle.std.specs.Prelude.{◌≡◌, ◌≤◌, All, ℕ, ◌+◌, List, [], ◌∷◌, ◌++◌, length, nat_lt, if◌then◌else◌, Option, Some, None, Result, Ok, Err}
use Rattle.loda_syntax.specs.Lines.{text_lines}
use Rattle.text_parts.specs.Results.{◌>>=◌}
use Rattle.loda_syntax.specs.Grammar.{line_read}
use Rattle.loda_syntax.specs.Programs.{Text}
use Rattle.loda_syntax.specs.WellFormed.{IsInstr, open_loops}
use Rattle.loda_syntax.specs.declared.instr.Instr.{Instr}
use Rattle.loda_syntax.specs.declared.instr.Instr.TheVariants.{Arith, Clear, LoopStart, LoopEnd, Call}
use Rattle.loda_syntax.specs.declared.error.SyntaxKind.{SyntaxKind}
use Rattle.loda_syntax.specs.declared.error.SyntaxKind.TheVariants as kinds
use Rattle.loda_syntax.specs.declared.instr.TheConstants.{MOST_INSTRS}

-- a fault, and the line that it stands in, counted from 1
pub record TextFault : Type 0 where
  pub line : ℕ
  pub kind : SyntaxKind

-- what the lines so far stand for: their instructions, and the lines of the loops that aren't ended, innermost first
pub record Draft : Type 0 where
  pub list : List Instr
  pub open_at : List ℕ

-- a draft by its parts
abbrev pub draft_of : List Instr → List ℕ → Draft
draft_of list open_at = record { list = list; open_at = open_at }

-- before the first line
abbrev pub empty_draft : Draft
empty_draft = draft_of [] []

-- the draft's instructions are in range, and its open loops are those that they leave open
pub record IsDraft (draft : Draft) : Type 0 where
  pub short : length draft.list ≤ MOST_INSTRS
  pub each : All IsInstr draft.list
  pub loops : open_loops 0 draft.list ≡ Some (length draft.open_at)

-- test 9: an end has a loop to end
abbrev pub open_after : ℕ → Instr → List ℕ → Result (List ℕ) SyntaxKind
open_after line LoopEnd [] = Err kinds.LoopClose
open_after line LoopEnd (outer ∷ open_at) = Ok open_at
open_after line (LoopStart c n) open_at = Ok (line ∷ open_at)
open_after line (Arith v t s) open_at = Ok open_at
open_after line (Clear c n) open_at = Ok open_at
open_after line (Call t q) open_at = Ok open_at

-- test 10: there are at most 1,000 instructions
abbrev pub add_last : List Instr → Instr → List ℕ → Result Draft SyntaxKind
add_last list instr open_at = if nat_lt (length list) MOST_INSTRS then Ok (draft_of (list ++ instr ∷ []) open_at) else Err kinds.TooLong

-- the draft with a line's instruction, or the first fault of tests 9 and 10
unfoldable pub with_instr : ℕ → Draft → Option Instr → Result Draft SyntaxKind
with_instr line draft None = Ok draft
with_instr line draft (Some instr) = open_after line instr draft.open_at >>= add_last draft.list instr

-- the draft with a line, or the line's first fault
unfoldable pub with_line : ℕ → Draft → List ℕ → Result Draft SyntaxKind
with_line line draft text = line_read text >>= with_instr line draft

-- a fault with the line that it stands in
abbrev pub fault_at : {A : Type 0} → ℕ → Result A SyntaxKind → Result A TextFault
fault_at line (Ok x) = Ok x
fault_at line (Err kind) = Err (record { line = line; kind = kind })

-- the draft with lines of which the first has this number, or the first fault
unfoldable pub with_lines : ℕ → Draft → List (List ℕ) → Result Draft TextFault
with_lines line draft [] = Ok draft
with_lines line draft (text ∷ texts) = fault_at line (with_line line draft text) >>= λ next. with_lines (line + 1) next texts

-- the list, or LoopOpen at the innermost loop that is not ended
abbrev pub closed_by : List Instr → List ℕ → Result Text TextFault
closed_by list [] = Ok list
closed_by list (line ∷ text_lines) = Err (record { line = line; kind = kinds.LoopOpen })

-- the program of the whole text, if each loop is ended
abbrev pub closed : Draft → Result Text TextFault
closed draft = closed_by draft.list draft.open_at

-- the program of a text, or its first fault
unfoldable pub text_read : List ℕ → Result Text TextFault
text_read text = with_lines 1 empty_draft (text_lines text) >>= closed
