-- What the runs at the first arguments cost, beside the present program's.
use Rattle.std.proofs.Common.{ℕ, ◌+◌, ◌<◌, ◌≤◌, ◌≡◌, ◌≢◌, refl, sym, ap, subst, ◌∙◌, arith, ℤ, pos, inl, inr, List, length, get_or}
use Rattle.std.specs.Prelude.{◌⊎◌, ◌<ℤ◌}
use Rattle.std.specs.declared.option.Option.TheVariants.{Some, None}
use Rattle.std.proofs.lemmas.Int.{ints}
use Rattle.std.proofs.lemmas.Option.{slice_get-get_or}
use Rattle.seq_calls.specs.Frames.{steps_of}
use Rattle.seq_calls.specs.Values.{outcome}
use Rattle.loda_syntax.specs.Programs.{Text}
use Rattle.loda_semantics.specs.Exec.{Outcome, value}
use Rattle.program_store.specs.Store.{Store, programs_of, after}
use Rattle.evidence.specs.Runs.{AreCosts, IsFirst}
use Rattle.evidence.specs.Trials.{IsDearerAt, IsLeastDearer, IsLeastOrNone, SameStepsBelow}
use Rattle.evidence.proofs.Outcomes.{steps_value}
use Rattle.evidence.proofs.Least.{first_more}

below_or : (i k : ℕ) → i < k + 1 → (i < k) ⊎ (i ≡ k)
below_or i k lt = grind arith

lesser_index : (j i : ℕ) → pos j <ℤ pos i → j < i
lesser_index j i l = omega (arith, ints)

module _ (s : Store) (limit q : ℕ) (p : Text) (i : ℕ) (x v : ℤ) (n cost : ℕ) (costs : List ℕ) (arg : x ≡ pos i) (was : outcome (programs_of s) q x limit ≡ value v n)
    (h : AreCosts (after s q p) q limit costs) (lt : i < length costs) (read : cost ≡ get_or costs i 0) where
  old_at : n ≡ steps_of (outcome (programs_of s) q x limit)
  old_at = sym (steps_value (outcome (programs_of s) q x limit) v n was)

  new_at : cost ≡ steps_of (outcome (after s q p) q x limit)
  new_at = read ∙ h i (get_or costs i 0) (slice_get-get_or costs i 0 lt) ∙ ap (λ (z : ℤ). steps_of (outcome (after s q p) q z limit)) (sym arg)

  old_first : n ≡ steps_of (outcome (programs_of s) q (pos i) limit)
  old_first = old_at ∙ ap (λ (z : ℤ). steps_of (outcome (programs_of s) q z limit)) arg

  new_first : cost ≡ steps_of (outcome (after s q p) q (pos i) limit)
  new_first = new_at ∙ ap (λ (z : ℤ). steps_of (outcome (after s q p) q z limit)) arg

  pub dearer_here : (count : ℕ) → i < count → n < cost → IsLeastOrNone s limit q p (IsFirst i) None → IsLeastDearer s limit q p (IsFirst count) (record { at = x; was = n; now = cost })
  dearer_here count le l none = record { at = (i, le, arg); was = old_at; now = new_at; dearer = l; least = least }
    where
      least : (y : ℤ) → y <ℤ x → IsFirst count y → IsDearerAt s limit q p y → ⊥
      least y m a k =
          let there : pos a.0 <ℤ pos i = subst (λ (z : ℤ). z <ℤ pos i) a.2 (subst (λ (z : ℤ). y <ℤ z) arg m) in
          none y (a.0, lesser_index a.0 i there, a.2) k

  pub no_dearer_here : (n < cost → ⊥) → IsLeastOrNone s limit q p (IsFirst i) None → IsLeastOrNone s limit q p (IsFirst (i + 1)) None
  no_dearer_here not none = λ y a k. by_place y k (first_more i y a)
    where
      by_place : (y : ℤ) → IsDearerAt s limit q p y → IsFirst i y ⊎ (y ≡ pos i) → ⊥
      by_place y k (inl a) = none y a k
      by_place y k (inr e) =
          let d : IsDearerAt s limit q p x = subst (λ (z : ℤ). IsDearerAt s limit q p z) (e ∙ sym arg) k in
          not (let a = old_at in let b = new_at in omega (arith, a, b, d))

  pub same_more : n ≡ cost → SameStepsBelow s limit q p i → SameStepsBelow s limit q p (i + 1)
  same_more e same = λ j l. by_place j (below_or j i l)
    where
      by_place : (j : ℕ) → (j < i) ⊎ (j ≡ i) → steps_of (outcome (programs_of s) q (pos j) limit) ≡ steps_of (outcome (after s q p) q (pos j) limit)
      by_place j (inl l) = same j l
      by_place j (inr f) =
          subst (λ (m : ℕ). steps_of (outcome (programs_of s) q (pos m) limit) ≡ steps_of (outcome (after s q p) q (pos m) limit)) (sym f)
          (sym old_first ∙ e ∙ new_first)

  pub differs : (count : ℕ) → i < count → n ≢ cost → SameStepsBelow s limit q p count → ⊥
  differs count le not same = not (old_first ∙ same i le ∙ sym new_first)

pub first_all : (s : Store) (limit q : ℕ) (p : Text) (i count : ℕ) → count ≤ i → IsLeastOrNone s limit q p (IsFirst i) None → IsLeastOrNone s limit q p (IsFirst count) None
first_all s limit q p i count le none = λ y a k. none y (a.0, (let l = a.1 in omega (arith, l, le)), a.2) k
