-- A line's content, by its word and its operands.
use Rattle.std.proofs.Common.{◌≡◌, ℕ, List, refl, sym, ap, ◌∙◌}
use Rattle.std.specs.Prelude.{Ok, Err}
use Rattle.std.specs.List.{after_first}
use Rattle.loda_syntax.specs.declared.instr.Operand.{Operand}
use Rattle.loda_syntax.specs.declared.word.Word.{Word}
use Rattle.loda_syntax.specs.declared.error.SyntaxKind.{SyntaxKind}
use Rattle.text_parts.specs.Blanks.{trim, is_blank}
use Rattle.loda_syntax.specs.Lines.{word_of, operands_of, cut_operands}
use Rattle.loda_syntax.specs.Words.{word_read}
use Rattle.loda_syntax.specs.Grammar.{least_operands, most_operands, operands_read, instr_read, content_read}

-- the parts of a content
pub record IsParts (text word rest : List ℕ) : Type 0 where
  pub word_is : word ≡ word_of text
  pub rest_is : rest ≡ trim (after_first is_blank text)

pub word_fails : (text word rest : List ℕ) (kind : SyntaxKind) → IsParts text word rest → Err kind ≡ word_read word → Err kind ≡ content_read text
unfolding content_read
word_fails text word rest kind parts e = let f : word_read (word_of text) ≡ Err kind = ap word_read (sym parts.word_is) ∙ sym e in rw f refl

pub operands_fail : (text word rest : List ℕ) (w : Word) (kind : SyntaxKind) → IsParts text word rest → Ok w ≡ word_read word → operands_read (least_operands w) (most_operands w) (cut_operands rest) ≡ Err kind → Err kind ≡ content_read text
unfolding content_read
operands_fail text word rest w kind parts e g =
    let f : word_read (word_of text) ≡ Ok w = ap word_read (sym parts.word_is) ∙ sym e in
    let h : operands_read (least_operands w) (most_operands w) (operands_of text) ≡ Err kind = ap (λ (t : List ℕ). operands_read (least_operands w) (most_operands w) (cut_operands t)) (sym parts.rest_is) ∙ g in
    rw (f, h) refl

pub instr_is : (text word rest : List ℕ) (w : Word) (os : List Operand) → IsParts text word rest → Ok w ≡ word_read word → operands_read (least_operands w) (most_operands w) (cut_operands rest) ≡ Ok os → instr_read w os ≡ content_read text
unfolding content_read
instr_is text word rest w os parts e g =
    let f : word_read (word_of text) ≡ Ok w = ap word_read (sym parts.word_is) ∙ sym e in
    let h : operands_read (least_operands w) (most_operands w) (operands_of text) ≡ Ok os = ap (λ (t : List ℕ). operands_read (least_operands w) (most_operands w) (cut_operands t)) (sym parts.rest_is) ∙ g in
    rw (f, h) refl
