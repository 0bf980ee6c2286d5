-- Values, terms and outcomes.
use Rattle.std.proofs.Common.{ℕ, zero, suc, ◌<◌, ◌≡◌, ◌≢◌, refl, sym, subst, arith, ℤ, pos, Bool, true, false, eqb, length, List, [], ◌∷◌}
use Rattle.std.specs.Prelude.{IsTrue, IsFalse, slice_get, ◌⊎◌}
use Rattle.std.proofs.Common.{inl, inr}
use Rattle.std.specs.declared.option.Option.TheVariants.{Some}
use Rattle.loda_semantics.specs.Exec.{Outcome, value}
use Rattle.seq_calls.specs.Values.{Gives}
use Rattle.judge.specs.Passed.{agree}

pub decide : (a b : ℕ) → (a ≡ b) ⊎ (a ≢ b)
decide a b = by_test (eqb a b) refl
  where
    by_test : (t : Bool) → eqb a b ≡ t → (a ≡ b) ⊎ (a ≢ b)
    by_test true e = inl (grind arith)
    by_test false e = inr (grind arith)

pub true_unless : (b : Bool) → (IsFalse b → ⊥) → IsTrue b
true_unless true h = refl
true_unless false h = absurd (h refl)

-- two outcomes that agree, the first being v
pub agree_gives : (o1 o2 : Outcome) (v : ℤ) (used : ℕ) → o1 ≡ value v used → IsTrue (agree o1 o2) → Gives o2 v
agree_gives o1 o2 v used e h = subst (λ z. IsTrue (agree z o2)) e h

-- there is a term at each place of a row
pub term_at : (row : List ℤ) (i : ℕ) → i < length row → (t : ℤ) × (slice_get row i ≡ Some t)
term_at [] i lt = absurd (omega arith)
term_at (t ∷ row) zero lt = (t, refl)
term_at (t ∷ row) (suc i) lt = term_at row i (omega arith)

-- a place with a term is within the row
pub place_within : (row : List ℤ) (i : ℕ) (t : ℤ) → slice_get row i ≡ Some t → i < length row
place_within [] i t e = absurd cc
place_within (u ∷ row) zero t e = omega arith
place_within (u ∷ row) (suc i) t e = let h = place_within row i t e in omega arith
