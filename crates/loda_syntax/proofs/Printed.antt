-- Printing line by line.
use Rattle.std.proofs.Common.{◌≡◌, ◌<◌, ◌≤◌, ◌+◌, ◌*◌, ℕ, List, [], ◌∷◌, ◌++◌, length, drop, get_or, refl, sym, ap, ◌∙◌, append_assoc, arith}
use Rattle.std.specs.Prelude.{replicate}
use Rattle.std.proofs.lemmas.List.{append-nil, drop_more, drop_all, replicate_more}
use Rattle.loda_syntax.specs.declared.instr.Instr.{Instr}
use Rattle.loda_syntax.specs.declared.instr.Instr.TheVariants.{Arith, Clear, LoopStart, LoopEnd, Call}
use Rattle.loda_syntax.specs.Canon.{instr_text, line_text, lines_text, canon, depth_at, depth_after}
use Rattle.loda_syntax.specs.Programs.{Text}
use Rattle.loda_syntax.specs.Answers.{AddsFront}

-- a front of the whole text was added, and this is left of it
pub record IsPrinted (old new left whole : List ℕ) : Type 0 where
  pub front : List ℕ
  pub added : new ≡ old ++ front
  pub rest : front ++ left ≡ whole

pub nothing_yet : (old whole : List ℕ) → IsPrinted old old whole whole
nothing_yet old whole = record { front = []; added = sym (append-nil old); rest = refl }

pub so_far : (old new left whole : List ℕ) → IsPrinted old new left whole → AddsFront old new whole
so_far old new left whole p = record { front = p.front; rest = left; added = p.added; whole = p.rest }

pub all_printed : (old new left whole : List ℕ) → left ≡ [] → IsPrinted old new left whole → new ≡ old ++ whole
all_printed old new left whole none p = p.added ∙ ap (λ (t : List ℕ). old ++ t) (sym (append-nil p.front) ∙ ap (λ (t : List ℕ). p.front ++ t) (sym none) ∙ p.rest)

more_printed : (old new piece left whole : List ℕ) → IsPrinted old new (piece ++ left) whole → IsPrinted old (new ++ piece) left whole
more_printed old new piece left whole p = record {
  front = p.front ++ piece;
  added = ap (λ (t : List ℕ). t ++ piece) p.added ∙ append_assoc old p.front piece;
  rest = append_assoc p.front piece left ∙ p.rest;
}

pub one_printed : (old new now whole line : List ℕ) (depth next place : ℕ) (is : List Instr) (z : Instr) → place < length is → line ≡ line_text depth (get_or is place z) → next ≡ depth_after depth (get_or is place z) → now ≡ new ++ line
    → IsPrinted old new (lines_text depth (drop place is)) whole → IsPrinted old now (lines_text next (drop (place + 1) is)) whole
unfolding lines_text
one_printed old new now whole line depth next place is z lt text deeper added p =
    let i = get_or is place z in
    let e : drop place is ≡ i ∷ drop (place + 1) is = drop_more is place z lt in
    rw (added, text, deeper) (more_printed old new (line_text depth i) (lines_text (depth_after depth i) (drop (place + 1) is)) whole (rw e at p))

pub indent_more : (n b : ℕ) → replicate (2 * n) b ++ b ∷ b ∷ [] ≡ replicate (2 * (n + 1)) b
indent_more n b =
    let one : List ℕ = b ∷ [] in
    let same : 2 * n + 1 + 1 ≡ 2 * (n + 1) = omega arith in
    sym (append_assoc (replicate (2 * n) b) one one) ∙ ap (λ (t : List ℕ). t ++ one) (replicate_more (2 * n) b) ∙ replicate_more (2 * n + 1) b ∙ ap (λ (k : ℕ). replicate k b) same

pub line_built : (old indented written ended : List ℕ) (count depth : ℕ) (i : Instr) → indented ≡ old ++ replicate (2 * count) 32 → count ≡ depth_at depth i → written ≡ indented ++ instr_text i → ended ≡ written ++ 10 ∷ []
    → ended ≡ old ++ line_text depth i
unfolding line_text
line_built old indented written ended count depth i a b c d = rw (d, c, a, b) (simp append_assoc)

pub start : (old : List ℕ) (p q : Text) → q ≡ p → IsPrinted old old (lines_text 0 q) (canon p)
unfolding canon
start old p q e = rw e (nothing_yet old (lines_text 0 p))

depth_after_le : (depth : ℕ) (i : Instr) → depth_after depth i ≤ depth + 1
depth_after_le depth (LoopStart c n) = omega arith
depth_after_le depth LoopEnd = omega arith
depth_after_le depth (Arith v t s) = omega arith
depth_after_le depth (Clear c n) = omega arith
depth_after_le depth (Call t q) = omega arith

pub next_depth_le : (depth next place : ℕ) (i : Instr) → next ≡ depth_after depth i → depth ≤ place → next ≤ place + 1
next_depth_le depth next place i e le = omega (arith, e, depth_after_le depth i)

pub none_left : (depth place : ℕ) (is : List Instr) → length is ≤ place → lines_text depth (drop place is) ≡ []
unfolding lines_text
none_left depth place is le = rw (drop_all place is le) refl
