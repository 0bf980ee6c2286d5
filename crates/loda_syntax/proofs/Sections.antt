-- Canonical texts as sections of a file: how their lines begin, and how they end.
use Rattle.std.proofs.Common.{◌≡◌, ◌<◌, ◌*◌, ℕ, zero, suc, List, [], ◌∷◌, ◌++◌, refl, sym, ap, ◌∙◌, inl, inr, arith, append_assoc, All}
use Rattle.std.specs.Prelude.{replicate, slice_index, ◌⊎◌, ◌==◌}
use Rattle.std.proofs.lemmas.List.{append-nil}
use Rattle.std.proofs.lemmas.List.Elements.{All-head, All-tail}
use Rattle.loda_syntax.specs.declared.instr.Verb.TheVariants as verb
use Rattle.loda_syntax.specs.declared.instr.Instr.{Instr}
use Rattle.loda_syntax.specs.declared.word.Word.{Word}
use Rattle.loda_syntax.specs.declared.word.Word.TheVariants as word
use Rattle.loda_syntax.specs.WellFormed.{IsInstr, IsProgram}
use Rattle.loda_syntax.specs.Programs.{Text}
use Rattle.loda_syntax.specs.Words.{word_text}
use Rattle.loda_syntax.specs.Lines.{text_lines}
use Rattle.loda_syntax.specs.Sections.{IsNoHeader, NoHeaders, EndsLine, IsSection}
use Rattle.loda_syntax.specs.Canon.{instr_word, instr_operands, operand_texts, instr_text, depth_at, depth_after, line_text, lines_text, canon}
use Rattle.loda_syntax.proofs.Bytes.{No-newline, split_here}
use Rattle.loda_syntax.proofs.Round.{line_inner}

after_word : (w : Word) (rest : List ℕ) → 64 < slice_index (word_text w ++ rest) 0
after_word (word.Operation verb.Mov) rest = omega arith
after_word (word.Operation verb.Add) rest = omega arith
after_word (word.Operation verb.Sub) rest = omega arith
after_word (word.Operation verb.Trn) rest = omega arith
after_word (word.Operation verb.Mul) rest = omega arith
after_word (word.Operation verb.Div) rest = omega arith
after_word (word.Operation verb.Dif) rest = omega arith
after_word (word.Operation verb.Mod) rest = omega arith
after_word (word.Operation verb.Pow) rest = omega arith
after_word (word.Operation verb.Gcd) rest = omega arith
after_word (word.Operation verb.Bin) rest = omega arith
after_word (word.Operation verb.Equ) rest = omega arith
after_word (word.Operation verb.Neq) rest = omega arith
after_word (word.Operation verb.Leq) rest = omega arith
after_word (word.Operation verb.Geq) rest = omega arith
after_word (word.Operation verb.Min) rest = omega arith
after_word (word.Operation verb.Max) rest = omega arith
after_word word.Clear rest = omega arith
after_word word.LoopStart rest = omega arith
after_word word.LoopEnd rest = omega arith
after_word word.Call rest = omega arith

line_start : (n : ℕ) (i : Instr) → IsNoHeader (replicate n 32 ++ instr_text i)
unfolding instr_text
line_start zero i = let lt = after_word (instr_word i) (operand_texts 32 (instr_operands i)) in (λ e. omega arith, λ e. omega arith)
line_start (suc n) i = (λ e. omega arith, λ e. omega arith)

no_headers : (is : List Instr) (depth : ℕ) → All IsInstr is → NoHeaders (text_lines (lines_text depth is))
unfolding lines_text line_text
no_headers [] depth all = ((λ e. omega arith, λ e. omega arith), tt)
no_headers (i ∷ is) depth all =
    let n = 2 * depth_at depth i in
    let text = replicate n 32 ++ instr_text i in
    let rest = lines_text (depth_after depth i) is in
    let cut : text_lines ((text ++ 10 ∷ []) ++ rest) ≡ text ∷ text_lines rest =
    ap text_lines (append_assoc text (10 ∷ []) rest) ∙ split_here (λ b. b == 10) text 10 rest (No-newline text (line_inner n i (All-head IsInstr i is all))) refl in
    rw cut (line_start n i, no_headers is (depth_after depth i) (All-tail IsInstr i is all))

-- no line of a canonical text begins with `=` or `?`
pub canon_no_headers : (p : Text) → IsProgram p → NoHeaders (text_lines (canon p))
unfolding canon
canon_no_headers p is = no_headers p 0 is.each

ends_after : (first rest : List ℕ) → (rest ≡ []) ⊎ EndsLine rest → EndsLine ((first ++ 10 ∷ []) ++ rest)
ends_after first rest (inl none) = record { front = first; whole = ap (λ (t : List ℕ). (first ++ 10 ∷ []) ++ t) none ∙ append-nil (first ++ 10 ∷ []) }
ends_after first rest (inr e) = record { front = (first ++ 10 ∷ []) ++ e.front; whole = ap (λ (t : List ℕ). (first ++ 10 ∷ []) ++ t) e.whole ∙ sym (append_assoc (first ++ 10 ∷ []) e.front (10 ∷ [])) }

lines_end : (is : List Instr) (depth : ℕ) → (lines_text depth is ≡ []) ⊎ EndsLine (lines_text depth is)
unfolding lines_text line_text
lines_end [] depth = inl refl
lines_end (i ∷ is) depth = inr (ends_after (replicate (2 * depth_at depth i) 32 ++ instr_text i) (lines_text (depth_after depth i) is) (lines_end is (depth_after depth i)))

pub canon_ends : (p : Text) → (canon p ≡ []) ⊎ EndsLine (canon p)
unfolding canon
canon_ends p = lines_end p 0

pub canon_section : (p : Text) → IsProgram p → IsSection (canon p)
canon_section p is = record { each = canon_no_headers p is; ends = canon_ends p }
