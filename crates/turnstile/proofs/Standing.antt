-- What a seat added stands in what it has seen, as both grow.
use Rattle.std.proofs.Common.{◌≡◌, ◌⊎◌, ℕ, zero, suc, ◌<◌, List, [], ◌∷◌, ◌++◌, length, Some, refl, sym, ap, subst, ⊎_elim, inl, inr, arith}
use Rattle.std.specs.Prelude.{slice_get}
use Rattle.std.proofs.lemmas.Option.{slice_get_within}
use mathlib.Core.List.{IsPrefix}
use Rattle.turnstile.specs.declared.known.Known.{Known}
use Rattle.turnstile.specs.declared.known.Tracked.{Tracked}
use Rattle.turnstile.specs.Steps.{Counted}
use Rattle.turnstile.specs.Seats.{Stands, IsGiven, Taking, Giving, Joining, longer}

module _ {X : Type 0} where
  slice_get-front : (xs ys : List X) (k : ℕ) (x : X) → slice_get xs k ≡ Some x → slice_get (xs ++ ys) k ≡ Some x
  slice_get-front [] ys k x is = absurd (cc)
  slice_get-front (z ∷ xs) ys zero x is = is
  slice_get-front (z ∷ xs) ys (suc k) x is = slice_get-front xs ys k x is

  slice_get-end : (xs : List X) (x : X) → slice_get (xs ++ x ∷ []) (length xs) ≡ Some x
  slice_get-end [] x = refl
  slice_get-end (z ∷ xs) x = slice_get-end xs x

  slice_get-snoc : (xs : List X) (x : X) (i : ℕ) (y : X) → slice_get (xs ++ x ∷ []) i ≡ Some y → (slice_get xs i ≡ Some y) ⊎ ((i ≡ length xs) × (x ≡ y))
  slice_get-snoc [] x zero y is = inr (refl, cc)
  slice_get-snoc [] x (suc i) y is = absurd (cc)
  slice_get-snoc (z ∷ zs) x zero y is = inl is
  slice_get-snoc (z ∷ zs) x (suc i) y is = ⊎_elim (λ s. inl s) (λ s. inr (ap suc s.0, s.1)) (slice_get-snoc zs x i y is)

  none_there : {A : Type 0} (i : ℕ) (x : X) → slice_get {X = X} [] i ≡ Some x → A
  none_there i x is = absurd (cc)

module _ {E : Type 0} where
  pub stands_none : (xs : List E) → Stands xs []
  stands_none xs = record { there = λ i x is. none_there i x is; ascend = λ i j x y is js less. none_there i x is }

  pub stands_more : (xs ys : List E) (added : List (ℕ × E)) → Stands xs added → IsPrefix xs ys → Stands ys added
  stands_more xs ys added s p = record {
    there = λ i x is. subst (λ l. slice_get l x.0 ≡ Some x.1) p.1 (slice_get-front xs p.0 x.0 x.1 (s.there i x is));
    ascend = s.ascend;
  }

  pub stands_added : (xs : List E) (added : List (ℕ × E)) (e : E) → Stands xs added → Stands (xs ++ e ∷ []) (added ++ (length xs, e) ∷ [])
  stands_added xs added e s = record { there = there; ascend = ascend }
    where
      new : ℕ × E
      new = (length xs, e)

      there : (i : ℕ) (x : ℕ × E) → slice_get (added ++ new ∷ []) i ≡ Some x → slice_get (xs ++ e ∷ []) x.0 ≡ Some x.1
      there i x is = ⊎_elim
          (λ (o : slice_get added i ≡ Some x). slice_get-front xs (e ∷ []) x.0 x.1 (s.there i x o))
          (λ (o : (i ≡ length added) × (new ≡ x)). subst (λ (y : ℕ × E). slice_get (xs ++ e ∷ []) y.0 ≡ Some y.1) o.1 (slice_get-end xs e))
          (slice_get-snoc added new i x is)

      ascend : (i j : ℕ) (x y : ℕ × E) → slice_get (added ++ new ∷ []) i ≡ Some x → slice_get (added ++ new ∷ []) j ≡ Some y → i < j → x.0 < y.0
      ascend i j x y is js less = ⊎_elim
          (λ (o : slice_get added i ≡ Some x). ⊎_elim
          (λ (p : slice_get added j ≡ Some y). s.ascend i j x y o p less)
          (λ (p : (j ≡ length added) × (new ≡ y)). let w = slice_get_within xs x.0 x.1 (s.there i x o) in subst (λ (z : ℕ × E). x.0 < z.0) p.1 w)
          (slice_get-snoc added new j y js))
          (λ (o : (i ≡ length added) × (new ≡ x)). ⊎_elim
          (λ (p : slice_get added j ≡ Some y). let w = slice_get_within added j y p in let at = o.0 in absurd (omega arith))
          (λ (p : (j ≡ length added) × (new ≡ y)). let at = o.0 in let and = p.0 in absurd (omega arith))
          (slice_get-snoc added new j y js))
          (slice_get-snoc added new i x is)

module _ {E : Type 0} where
  abbrev pub Sits : Known E → Type 0
  Sits k = Stands k.seen k.added

  pub stands_taken : (seen : List E) (k k' : Known E) → Sits k → IsPrefix k.seen seen → Taking seen k k' → Sits k'
  stands_taken seen k k' s p now = subst Sits (sym now.1) (stands_more k.seen seen k.added s p)

  pub stands_given : (now : List E) (k k' : Known E) → Sits k → IsGiven k.seen now → Giving now k k' → Sits k'
  stands_given now k k' s (inl same) g = subst Sits (sym (g.0 same)) s
  stands_given now k k' s (inr more) g = subst Sits (sym (g.1 more.0 more.1)) (stands_added k.seen k.added more.0 s)

  pub stands_joined : (k other k' : Known E) → Sits k → Joining k other k' → Sits k'
  stands_joined k other k' s j = subst Sits (sym j.0) (stands_more k.seen (longer k.seen other.seen) k.added s (subst (λ (u : Known E). IsPrefix k.seen u.seen) j.0 j.1))

-- A count of what is given leaves the fixed part.
pub counted_fixed : {E F : Type 0} (now : List E) (k k' : Tracked E F) → IsGiven k.known.seen now → Counted now k k' → k'.fixed ≡ k.fixed
counted_fixed now k k' (inl same) c = ap (λ t. t.fixed) (c.0 same)
counted_fixed now k k' (inr more) c = ap (λ t. t.fixed) (c.1 more.0 more.1)
