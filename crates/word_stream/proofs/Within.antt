-- How many words a source gave, added up.
use Rattle.std.proofs.Common.{◌≡◌, ℕ, zero, suc, ◌+◌, ◌≤◌, refl, ap, sym, ◌∙◌, arith, add-suc, add-zero}
use Rattle.rand_core.specs.Stream.{Stream}
use Rattle.word_stream.specs.Words.{advanced, rest, IsDrawnWithin}

-- j words after k words
pub advanced-advanced : (k j : ℕ) (words : Stream) → advanced j (advanced k words) ≡ advanced (j + k) words
advanced-advanced zero j words = ap (λ (n : ℕ). advanced n words) (sym (add-zero j))
advanced-advanced (suc k) j words = advanced-advanced k j (rest words) ∙ ap (λ (n : ℕ). advanced n words) (sym (add-suc j k))

-- no word was drawn
pub drawn_none : (words : Stream) → IsDrawnWithin 0 words words
drawn_none words = record { taken = 0; few = omega arith; left = refl }

-- one word was drawn, and then at most m
pub drawn_first : (m : ℕ) (words new : Stream) → IsDrawnWithin m (rest words) new → IsDrawnWithin (suc m) words new
drawn_first m words new d = record { taken = suc d.taken; few = omega (arith, d.few); left = d.left }

-- at most m words, and then at most n
pub drawn_then : (m n : ℕ) (old middle new : Stream) → IsDrawnWithin m old middle → IsDrawnWithin n middle new → IsDrawnWithin (n + m) old new
drawn_then m n old middle new d e = record {
  taken = e.taken + d.taken;
  few = omega (arith, d.few, e.few);
  left = e.left ∙ ap (λ (s : Stream). advanced e.taken s) d.left ∙ advanced-advanced d.taken e.taken old;
}

-- a wider bound
pub drawn_within : (m n : ℕ) (old new : Stream) → m ≤ n → IsDrawnWithin m old new → IsDrawnWithin n old new
drawn_within m n old new le d = record { taken = d.taken; few = omega (arith, d.few); left = d.left }
