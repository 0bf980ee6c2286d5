-- The proposed program at one more argument.
use Rattle.std.proofs.Common.{ℕ, zero, suc, ◌+◌, ◌<◌, ◌≤◌, ◌≡◌, refl, sym, ap, subst, ◌∙◌, arith, ℤ, pos, inl, inr, List, length, get_or, Contains}
use Rattle.std.specs.Prelude.{◌⊎◌, ◌<ℤ◌, slice_get, IsFalse}
use Rattle.std.specs.declared.option.Option.{Option}
use Rattle.std.specs.declared.option.Option.TheVariants.{Some, None}
use Rattle.std.proofs.lemmas.Int.{by_lt_z, ints}
use Rattle.std.proofs.lemmas.Option.{slice_get_within, get_or_from_slice_get, slice_get-get_or}
use Rattle.seq_calls.specs.Frames.{steps_of}
use Rattle.seq_calls.specs.Values.{outcome, Gives, gives}
use Rattle.loda_syntax.specs.Programs.{Text}
use Rattle.loda_semantics.specs.Exec.{Outcome, value}
use Rattle.program_store.specs.Store.{Store, programs_of, after}
use Rattle.seq_calls.specs.Demand.{InDem}
use Rattle.judge.specs.declared.answer.Got.{Got}
use Rattle.judge.specs.Passed.{got_of}
use Rattle.judge.specs.Judged.{LeastWith, Breaks}
use Rattle.demand_table.specs.Nodes.{IsAscending, ListsDem}
use Rattle.evidence.specs.declared.comparing.Dearer.{Dearer}
use Rattle.evidence.specs.Runs.{IsFirst, IsOf}
use Rattle.evidence.specs.Trials.{IsDearerAt, IsLeastDearer, IsLeastOrNone, KeepsAt}
use Rattle.evidence.proofs.Outcomes.{disagree, agreeing, gives_it}

not_below_itself : (x : ℤ) → x <ℤ x → ⊥
not_below_itself x l = omega (arith, ints)

not_both : (x y : ℤ) → x <ℤ y → y <ℤ x → ⊥
not_both x y l g = omega (arith, ints)

below_or : (i k : ℕ) → i < k + 1 → (i < k) ⊎ (i ≡ k)
below_or i k lt = grind arith

-- ---- members of a list, one more

module _ (xs : List ℤ) (i : ℕ) (x : ℤ) (at : slice_get xs i ≡ Some x) where
  pub of_more : (y : ℤ) → IsOf xs (i + 1) y → IsOf xs i y ⊎ (y ≡ x)
  of_more y h = by_place (below_or h.0 i h.1)
    where
      by_place : (h.0 < i) ⊎ (h.0 ≡ i) → IsOf xs i y ⊎ (y ≡ x)
      by_place (inl lt) = inl (h.0, lt, h.2)
      by_place (inr e) = inr (let f : Some y ≡ Some x = sym h.2 ∙ ap (slice_get xs) e ∙ at in let g : y ≡ x = cc in g)

  pub of_less : (y : ℤ) → IsOf xs i y ⊎ (y ≡ x) → IsOf xs (i + 1) y
  of_less y (inl h) = (h.0, (let l = h.1 in omega (arith, l)), h.2)
  of_less y (inr e) = (i, omega arith, at ∙ ap (λ (z : ℤ). Some z) (sym e))

pub of_all : (xs : List ℤ) (n : ℕ) (x : ℤ) → length xs ≤ n → Contains xs x → IsOf xs n x
of_all xs n x le c = (c.0, (let l = c.1 in omega (arith, l, le)), slice_get-get_or xs c.0 x c.1 ∙ ap (λ (z : ℤ). Some z) c.2)

pub of_contained : (xs : List ℤ) (n : ℕ) (x : ℤ) → IsOf xs n x → Contains xs x
of_contained xs n x h = (h.0, slice_get_within xs h.0 x h.2, get_or_from_slice_get xs h.0 x x h.2)

-- ---- numbers, one more

pub first_more : (i : ℕ) (y : ℤ) → IsFirst (i + 1) y → IsFirst i y ⊎ (y ≡ pos i)
first_more i y h = by_place (below_or h.0 i h.1)
  where
    by_place : (h.0 < i) ⊎ (h.0 ≡ i) → IsFirst i y ⊎ (y ≡ pos i)
    by_place (inl lt) = inl (h.0, lt, h.2)
    by_place (inr e) = inr (h.2 ∙ ap pos e)

pub first_less : (i : ℕ) (y : ℤ) → IsFirst i y ⊎ (y ≡ pos i) → IsFirst (i + 1) y
first_less i y (inl h) = (h.0, (let l = h.1 in omega (arith, l)), h.2)
first_less i y (inr e) = (i, omega arith, e)

first_below : (i : ℕ) (y : ℤ) → IsFirst i y → y <ℤ pos i
first_below i y h = subst (λ (z : ℤ). z <ℤ pos i) (sym h.2) (let l = h.1 in omega (arith, ints, l))

-- ---- the least that is dearer

module _ (s : Store) (limit q : ℕ) (p : Text) where
  old : ℤ → Outcome
  old x = outcome (programs_of s) q x limit

  new : ℤ → Outcome
  new x = outcome (after s q p) q x limit

  pub keeps_none : (At : ℤ → Type 0) → ((x : ℤ) → At x → ⊥) → KeepsAt s limit q p At
  keeps_none At none = λ x a. absurd (none x a)

  pub keeps_same : (At Other : ℤ → Type 0) → ((x : ℤ) → Other x → At x) → KeepsAt s limit q p At → KeepsAt s limit q p Other
  keeps_same At Other from h = λ x a. h x (from x a)

  -- every value is kept at one more argument
  pub keeps_more : (At : ℤ → Type 0) (x v : ℤ) (n m : ℕ) → outcome (programs_of s) q x limit ≡ value v n → outcome (after s q p) q x limit ≡ value v m
      → KeepsAt s limit q p At → KeepsAt s limit q p (λ y. At y ⊎ (y ≡ x))
  keeps_more At x v n m was now h = by_case
    where
      by_case : (y : ℤ) → At y ⊎ (y ≡ x) → (v : ℤ) × (n m : ℕ) × (outcome (programs_of s) q y limit ≡ value v n) × (outcome (after s q p) q y limit ≡ value v m)
      by_case y (inl a) = h y a
      by_case y (inr e) = (v, n, m, ap (λ (z : ℤ). outcome (programs_of s) q z limit) e ∙ was, ap (λ (z : ℤ). outcome (after s q p) q z limit) e ∙ now)

  pub least_none : (At : ℤ → Type 0) → ((x : ℤ) → At x → ⊥) → IsLeastOrNone s limit q p At None
  least_none At none = λ y a d. none y a

  pub least_same : (At Other : ℤ → Type 0) (o : Option Dearer) → ((x : ℤ) → At x → Other x) → ((x : ℤ) → Other x → At x) → IsLeastOrNone s limit q p At o → IsLeastOrNone s limit q p Other o
  least_same At Other None to from h = λ y a d. h y (from y a) d
  least_same At Other (Some d) to from h = record { at = to d.at h.at; was = h.was; now = h.now; dearer = h.dearer; least = λ y lt a k. h.least y lt (from y a) k }

  module _ (At : ℤ → Type 0) (x : ℤ) where
    -- it is dearer there, and nowhere before
    pub least_here : (d : Dearer) → d.at ≡ x → d.was ≡ steps_of (outcome (programs_of s) q x limit) → d.now ≡ steps_of (outcome (after s q p) q x limit) → d.was < d.now
        → IsLeastOrNone s limit q p At None → IsLeastOrNone s limit q p (λ y. At y ⊎ (y ≡ x)) (Some d)
    least_here d at was now lt none = record {
      at = inr at;
      was = was ∙ ap (λ (z : ℤ). steps_of (outcome (programs_of s) q z limit)) (sym at);
      now = now ∙ ap (λ (z : ℤ). steps_of (outcome (after s q p) q z limit)) (sym at);
      dearer = lt;
      least = least;
    }
      where
        least : (y : ℤ) → y <ℤ d.at → At y ⊎ (y ≡ x) → IsDearerAt s limit q p y → ⊥
        least y l (inl a) k = none y a k
        least y l (inr e) k = not_below_itself y (subst (λ (z : ℤ). y <ℤ z) (at ∙ sym e) l)

    -- it is no dearer there
    pub least_passed : (IsDearerAt s limit q p x → ⊥) → IsLeastOrNone s limit q p At None → IsLeastOrNone s limit q p (λ y. At y ⊎ (y ≡ x)) None
    least_passed not none = by_case
      where
        by_case : (y : ℤ) → At y ⊎ (y ≡ x) → IsDearerAt s limit q p y → ⊥
        by_case y (inl a) k = none y a k
        by_case y (inr e) k = not (subst (λ (z : ℤ). IsDearerAt s limit q p z) e k)

    -- a lesser one is known
    pub least_kept : (d : Dearer) → ((y : ℤ) → At y → y <ℤ x) → IsLeastOrNone s limit q p At (Some d) → IsLeastOrNone s limit q p (λ y. At y ⊎ (y ≡ x)) (Some d)
    least_kept d below h = record { at = inl h.at; was = h.was; now = h.now; dearer = h.dearer; least = least }
      where
        least : (y : ℤ) → y <ℤ d.at → At y ⊎ (y ≡ x) → IsDearerAt s limit q p y → ⊥
        least y l (inl a) k = h.least y l a k
        least y l (inr e) k = not_both d.at x (below d.at h.at) (subst (λ (z : ℤ). z <ℤ d.at) e l)

  -- ---- the first demanded argument with another value

  pub breaks_here : (xs : List ℤ) (i : ℕ) (x v : ℤ) (n : ℕ) → ListsDem s q xs → slice_get xs i ≡ Some x → outcome (programs_of s) q x limit ≡ value v n → IsFalse (gives (outcome (after s q p) q x limit) v)
      → KeepsAt s limit q p (IsOf xs i) → LeastWith (Breaks s limit q p) x × Gives (outcome (programs_of s) q x limit) v
  breaks_here xs i x v n dem at was not kept = (((demanded, disagree (outcome (programs_of s) q x limit) (outcome (after s q p) q x limit) v n was not), none_less), gives_it (outcome (programs_of s) q x limit) v n was)
    where
      demanded : InDem s q x
      demanded = (dem.each x).0 (of_contained xs (i + 1) x (i, omega arith, at))

      none_less : (y : ℤ) → y <ℤ x → Breaks s limit q p y → ⊥
      none_less y lt b = by_place (of_all xs (length xs) y (omega arith) ((dem.each y).1 b.0))
        where
          order_of : (a b : ℕ) → (a < b) ⊎ ((a ≡ b) ⊎ (b < a))
          order_of a b = grind arith

          by_place : IsOf xs (length xs) y → ⊥
          by_place h = by_order (order_of h.0 i)
            where
              by_order : (h.0 < i) ⊎ ((h.0 ≡ i) ⊎ (i < h.0)) → ⊥
              by_order (inl l) =
                  let k = kept y (h.0, l, h.2) in
                  agreeing (outcome (programs_of s) q y limit) (outcome (after s q p) q y limit) k.0 k.1 k.2 k.3 k.4 b.1
              by_order (inr (inl e)) = let f : Some y ≡ Some x = sym h.2 ∙ ap (slice_get xs) e ∙ at in let g : y ≡ x = cc in not_below_itself y (subst (λ (z : ℤ). y <ℤ z) (sym g) lt)
              by_order (inr (inr l)) = not_both x y (dem.ascending i h.0 x y l at h.2) lt

pub above_all : (xs : List ℤ) (i : ℕ) (x : ℤ) → IsAscending xs → slice_get xs i ≡ Some x → (y : ℤ) → IsOf xs i y → y <ℤ x
above_all xs i x up at y h = up h.0 i y x h.1 h.2 at

pub of_none : (xs : List ℤ) (x : ℤ) → IsOf xs 0 x → ⊥
of_none xs x h = let l = h.1 in omega (arith, l)

pub item_at : (xs : List ℤ) (i : ℕ) (x : ℤ) → i < length xs → x ≡ get_or xs i x → slice_get xs i ≡ Some x
item_at xs i x lt e = slice_get-get_or xs i x lt ∙ ap (λ (z : ℤ). Some z) (sym e)
