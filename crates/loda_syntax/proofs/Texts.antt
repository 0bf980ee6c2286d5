-- A text's lines, read one after the other as a loop does.
use Rattle.std.proofs.Common.{◌≡◌, ◌+◌, ◌==◌, ℕ, Bool, List, [], ◌∷◌, refl, sym, ap, ◌∙◌}
use Rattle.std.specs.Prelude.{Ok, Err}
use Rattle.loda_syntax.specs.declared.error.ParseError.{ParseError}
use Rattle.loda_syntax.specs.declared.error.ParseError.TheVariants as errors
use Rattle.loda_syntax.specs.Cuts.{IsFirstPass, IsUncut}
use Rattle.loda_syntax.specs.Lines.{text_lines}
use Rattle.loda_syntax.specs.Reading.{Draft, with_line, with_lines, fault_at, closed, empty_draft, text_read}
use Rattle.loda_syntax.specs.Answers.{ParseFails}
use Rattle.loda_syntax.proofs.Drafts.{one_line, bad_line}

abbrev pub newline : ℕ → Bool
newline b = b == 10

-- what is left to read, from a draft on, is the whole
abbrev pub IsLeft : List ℕ → ℕ → Draft → List (List ℕ) → Type 0
IsLeft text number draft texts = with_lines number draft texts ≡ with_lines 1 empty_draft (text_lines text)

pub step : (text rest line after : List ℕ) (number : ℕ) (d next : Draft) → IsFirstPass newline rest line after → IsLeft text number d (text_lines rest) → fault_at number (with_line number d line) ≡ Ok next → IsLeft text (number + 1) next (text_lines after)
step text rest line after number d next cut left e = sym (one_line number d next line (text_lines after) e) ∙ ap (with_lines number d) (sym cut.parts) ∙ left

fails_with : (text line : List ℕ) (number : ℕ) (d : Draft) (after : List (List ℕ)) (e : ParseError) → IsLeft text number d (line ∷ after) → ParseFails e (fault_at number (with_line number d line)) → ParseFails e (text_read text)
unfolding text_read
fails_with text line number d after errors.Memory left h = tt
fails_with text line number d after (errors.Syntax at_line kind) left h =
    let e : with_lines 1 empty_draft (text_lines text) ≡ Err (record { line = at_line; kind = kind }) = sym left ∙ bad_line number d line after _ h in rw e refl

pub line_fails : (text rest line after : List ℕ) (number : ℕ) (d : Draft) (e : ParseError) → IsFirstPass newline rest line after → IsLeft text number d (text_lines rest) → ParseFails e (fault_at number (with_line number d line)) → ParseFails e (text_read text)
line_fails text rest line after number d e cut left h = fails_with text line number d (text_lines after) e (ap (with_lines number d) (sym cut.parts) ∙ left) h

pub last_fails : (text rest : List ℕ) (number : ℕ) (d : Draft) (e : ParseError) → IsUncut newline rest → IsLeft text number d (text_lines rest) → ParseFails e (fault_at number (with_line number d rest)) → ParseFails e (text_read text)
last_fails text rest number d e last left h = fails_with text rest number d [] e (ap (with_lines number d) (sym last.parts) ∙ left) h

pub whole_read : (text rest : List ℕ) (number : ℕ) (d next : Draft) → IsUncut newline rest → IsLeft text number d (text_lines rest) → fault_at number (with_line number d rest) ≡ Ok next → text_read text ≡ closed next
unfolding text_read with_lines
whole_read text rest number d next last left e =
    let whole : with_lines 1 empty_draft (text_lines text) ≡ Ok next = sym left ∙ ap (with_lines number d) last.parts ∙ one_line number d next rest [] e in rw whole refl
