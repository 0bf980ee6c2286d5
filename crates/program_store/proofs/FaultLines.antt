-- The line of a text's first fault is one of its lines.
use Rattle.std.proofs.Common.{◌≡◌, ℕ, ◌+◌, ◌≤◌, List, ◌∷◌, ◌++◌, length, ap, length-append, arith, inl, inr}
use Rattle.std.specs.Prelude.{◌==◌}
use Rattle.std.proofs.lemmas.List.Splits.{length-slice_split}
use Rattle.std.proofs.lemmas.List.Sums.{count_by-le-length}
use Rattle.loda_syntax.specs.Lines.{text_lines}
use Rattle.loda_syntax.specs.Laws.{BadText}
use Rattle.loda_syntax.specs.declared.error.SyntaxKind.{SyntaxKind}

lines_few : (bytes : List ℕ) → length (text_lines bytes) ≤ length bytes + 1
lines_few bytes = omega (arith, length-slice_split (λ b. b == 10) bytes, count_by-le-length (λ b. b == 10) bytes)

in_lines : (bytes : List ℕ) (before after : List (List ℕ)) (text : List ℕ) (line : ℕ) → text_lines bytes ≡ before ++ text ∷ after → line ≡ length before + 1 → line ≤ length bytes + 1
in_lines bytes before after text line cut number = omega (arith, lines_few bytes, ap length cut, length-append before (text ∷ after), number)

pub fault_line : (bytes : List ℕ) (line : ℕ) (kind : SyntaxKind) → BadText bytes line kind → line ≤ length bytes + 1
fault_line bytes line kind (inl bad) = in_lines bytes bad.before bad.after bad.text line bad.cut bad.number
fault_line bytes line kind (inr loop) = in_lines bytes loop.1.before loop.1.after loop.1.text line loop.1.cut loop.1.number
