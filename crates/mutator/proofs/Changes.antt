-- Changes one by one: how a list that takes them comes to what is made.
use Rattle.std.proofs.Common.{◌≡◌, ℕ, suc, List, ap, sym, ◌∙◌}
use Rattle.rand_core.specs.Stream.{Stream}
use Rattle.word_stream.specs.Words.{below, rest}
use Rattle.loda_syntax.specs.declared.instr.Instr.{Instr}
use Rattle.mutator.specs.Mutating.{changed, changes, mutated}

-- what `left` more changes make of the list is the whole
pub record IsLeft (whole : List Instr × Stream) (names : List ℕ) (left : ℕ) (list : List Instr) (words : Stream) : Type 0 where
  pub made : changes left names list words ≡ whole

pub left_first : (names : List ℕ) (given list : List Instr) (old words : Stream) (count : ℕ)
    → list ≡ given → count ≡ suc (below 3 old) → words ≡ rest old → IsLeft (mutated names given old) names count list words
left_first names given list old words count copied same drawn = record { made = λ i. changes (same i) names (copied i) (drawn i) }

pub left_next : (whole : List Instr × Stream) (names : List ℕ) (left : ℕ) (list : List Instr) (words : Stream)
    (fewer : ℕ) (other : List Instr) (after : Stream)
    → IsLeft whole names left list words → left ≡ suc fewer → other ≡ (changed names list words).0 → after ≡ (changed names list words).1
    → IsLeft whole names fewer other after
left_next whole names left list words fewer other after before more made drawn = record {
  made = (λ i. changes fewer names (made i) (drawn i)) ∙ sym (ap (λ (n : ℕ). changes n names list words) more) ∙ before.made;
}

pub left_none : (whole : List Instr × Stream) (names : List ℕ) (left : ℕ) (list : List Instr) (words : Stream)
    → IsLeft whole names left list words → left ≡ 0 → (list ≡ whole.0) × (words ≡ whole.1)
left_none whole names left list words before none =
    let e : (list, words) ≡ whole = sym (ap (λ (n : ℕ). changes n names list words) none) ∙ before.made in
    (ap (λ (p : List Instr × Stream). p.0) e, ap (λ (p : List Instr × Stream). p.1) e)
