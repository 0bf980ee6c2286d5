-- Turns one by one: how a list that grows by them comes to what is generated.
use Rattle.std.proofs.Common.{◌≡◌, ℕ, suc, List, [], ◌++◌, replicate, ap, sym, ◌∙◌, append_assoc}
use Rattle.rand_core.specs.Stream.{Stream}
use Rattle.word_stream.specs.Words.{below, rest}
use Rattle.loda_syntax.specs.declared.instr.Instr.{Instr}
use Rattle.loda_syntax.specs.declared.instr.Instr.TheVariants.{LoopEnd}
use Rattle.generator.specs.Generating.{turn, turns, generated}

-- the list, and what `left` more turns add to it, are the whole
pub record IsLeft (whole : List Instr × Stream) (list : List Instr) (names : List ℕ) (left depth : ℕ) (words : Stream) : Type 0 where
  pub made : list ++ (turns left names depth words).0 ≡ whole.0
  pub last : (turns left names depth words).1 ≡ whole.1

pub left_first : (names : List ℕ) (old : Stream) (list : List Instr) (words : Stream) (count : ℕ)
    → list ≡ [] → count ≡ suc (below 8 old) → words ≡ rest old → IsLeft (generated names old) list names count 0 words
left_first names old list words count empty same drawn = record {
  made = λ i. empty i ++ (turns (same i) names 0 (drawn i)).0;
  last = λ i. (turns (same i) names 0 (drawn i)).1;
}

pub left_next : (whole : List Instr × Stream) (list : List Instr) (names : List ℕ) (left depth : ℕ) (words : Stream)
    (longer : List Instr) (fewer deeper : ℕ) (after : Stream)
    → IsLeft whole list names left depth words → left ≡ suc fewer → longer ≡ list ++ (turn names depth words).added
    → deeper ≡ (turn names depth words).depth → after ≡ (turn names depth words).words
    → IsLeft whole longer names fewer deeper after
left_next whole list names left depth words longer fewer deeper after before more added opened drawn =
    let first = turn names depth words in
    record {
      made =
          (λ i. added i ++ (turns fewer names (opened i) (drawn i)).0)
          ∙ append_assoc list first.added (turns fewer names first.depth first.words).0
          ∙ sym (ap (λ (n : ℕ). list ++ (turns n names depth words).0) more) ∙ before.made;
      last =
          (λ i. (turns fewer names (opened i) (drawn i)).1)
          ∙ sym (ap (λ (n : ℕ). (turns n names depth words).1) more) ∙ before.last;
    }

pub left_none : (whole : List Instr × Stream) (list : List Instr) (names : List ℕ) (left depth : ℕ) (words : Stream)
    → IsLeft whole list names left depth words → left ≡ 0 → (list ++ replicate depth LoopEnd ≡ whole.0) × (words ≡ whole.1)
left_none whole list names left depth words before none = (
  sym (ap (λ (n : ℕ). list ++ (turns n names depth words).0) none) ∙ before.made,
  sym (ap (λ (n : ℕ). (turns n names depth words).1) none) ∙ before.last,
)
