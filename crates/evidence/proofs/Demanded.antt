-- The proposed program at the demanded arguments.
use Rattle.std.proofs.Common.{ℕ, ◌+◌, ◌*◌, ◌<◌, ◌≤◌, ◌≡◌, refl, sym, ap, subst, ◌∙◌, arith, ℤ, pos, inl, inr, List, ◌++◌, length, get_or, Contains}
use Rattle.std.specs.Prelude.{◌⊎◌, ◌<ℤ◌, slice_get}
use Rattle.std.specs.declared.option.Option.{Option}
use Rattle.std.specs.declared.option.Option.TheVariants.{Some, None}
use Rattle.seq_calls.specs.Values.{outcome, Gives}
use Rattle.loda_syntax.specs.Programs.{Text}
use Rattle.loda_semantics.specs.Exec.{Outcome, value, run_name}
use Rattle.program_store.specs.Store.{Store, programs_of, after}
use Rattle.seq_calls.specs.declared.outcomes.Outcome.{Outcome as Told}
use Rattle.seq_calls.specs.declared.outcomes.Outcome.TheVariants as told_as
use Rattle.seq_calls.specs.declared.outcomes.NodeRun.{NodeRun}
use Rattle.seq_calls.specs.Frames.{told, nodes_of, steps_of}
use Rattle.seq_calls.specs.Demand.{InDem, IsReliedOn}
use Rattle.judge.specs.declared.answer.Got.{Got}
use Rattle.judge.specs.declared.answer.Got.TheVariants as got
use Rattle.judge.specs.Passed.{got_of}
use Rattle.judge.specs.Misses.{got_told}
use Rattle.judge.specs.Judged.{LeastWith, Breaks}
use Rattle.demand_table.specs.Nodes.{ListsDem}
use Rattle.evidence.specs.declared.comparing.Dearer.{Dearer}
use Rattle.evidence.specs.Runs.{AreRunsAt, IsFirst, IsOf}
use Rattle.evidence.specs.Trials.{IsDearerAt, IsLeastOrNone, IsKnownOr, KeepsAt}
use Rattle.judge.proofs.Misses.{got_same}
use Rattle.seq_calls.proofs.Values.{told_value}
use Rattle.evidence.proofs.Outcomes.{not_got, steps_value}
use Rattle.evidence.proofs.RunsAt.{one_more_at, same_at}
use Rattle.evidence.proofs.Least.{of_more, of_less, of_all, of_contained, of_none, above_all, keeps_none, keeps_same, keeps_more, least_none, least_same, least_here, least_passed, least_kept, breaks_here}

module _ (s : Store) (limit q : ℕ) (p : Text) (xs : List ℤ) where
  pub at_start : (given : List NodeRun) → KeepsAt s limit q p (IsOf xs 0) × IsLeastOrNone s limit q p (IsOf xs 0) None
      × ((k : ℕ) → AreRunsAt (after s q p) q limit (IsFirst k) given → AreRunsAt (after s q p) q limit (λ x. IsFirst k x ⊎ IsOf xs 0 x) given)
  at_start given = (
    keeps_none s limit q p (IsOf xs 0) (of_none xs),
    least_none s limit q p (IsOf xs 0) (of_none xs),
    λ k h. same_at (after s q p) q limit (IsFirst k) (λ x. IsFirst k x ⊎ IsOf xs 0 x) given (λ x a. inl a) (from k) h,
  )
    where
      from : (k : ℕ) (x : ℤ) → IsFirst k x ⊎ IsOf xs 0 x → IsFirst k x
      from k x (inl a) = a
      from k x (inr b) = absurd (of_none xs x b)

  pub demanded_at : (i : ℕ) (x : ℤ) → ListsDem s q xs → slice_get xs i ≡ Some x → IsReliedOn s q x
  demanded_at i x dem at = inr ((dem.each x).0 (of_contained xs (i + 1) x (i, omega arith, at)))

  module _ (i : ℕ) (x v : ℤ) (n : ℕ) (dem : ListsDem s q xs) (at : slice_get xs i ≡ Some x) (was : outcome (programs_of s) q x limit ≡ value v n) (o : Told) (ran : o ≡ told (outcome (after s q p) q x limit)) where
    pub broken_at : (g : Got) → g ≡ got_told o → (got_told o ≡ got.Value v → ⊥) → KeepsAt s limit q p (IsOf xs i)
        → LeastWith (Breaks s limit q p) x × Gives (outcome (programs_of s) q x limit) v × (g ≡ got_of (outcome (after s q p) q x limit))
    broken_at g is not kept =
        let new = outcome (after s q p) q x limit in
        let h = breaks_here s limit q p xs i x v n dem at was (not_got new v (λ e. not (ap got_told ran ∙ e))) kept in
        (h.0, h.1, is ∙ ap got_told ran ∙ got_same new)

    module _ (used : ℕ) (same : o ≡ told_as.Value v used) where
      now_is : outcome (after s q p) q x limit ≡ value v used
      now_is = told_value (outcome (after s q p) q x limit) v used (sym ran ∙ same)

      pub kept_more : KeepsAt s limit q p (IsOf xs i) → KeepsAt s limit q p (IsOf xs (i + 1))
      kept_more h = keeps_same s limit q p (λ y. IsOf xs i y ⊎ (y ≡ x)) (IsOf xs (i + 1)) (of_more xs i x at) (keeps_more s limit q p (IsOf xs i) x v n used was now_is h)

      pub runs_more : (k : ℕ) (runs runs2 nodes : List NodeRun) → nodes ≡ nodes_of q x (run_name (after s q p) q x limit) → runs2 ≡ runs ++ nodes
          → AreRunsAt (after s q p) q limit (λ y. IsFirst k y ⊎ IsOf xs i y) runs → AreRunsAt (after s q p) q limit (λ y. IsFirst k y ⊎ IsOf xs (i + 1) y) runs2
      runs_more k runs runs2 nodes are joined h =
          same_at (after s q p) q limit (λ y. (IsFirst k y ⊎ IsOf xs i y) ⊎ (y ≡ x)) (λ y. IsFirst k y ⊎ IsOf xs (i + 1) y) runs2 to from
          (one_more_at (after s q p) q limit (λ y. IsFirst k y ⊎ IsOf xs i y) x runs runs2 (joined ∙ ap (λ (l : List NodeRun). runs ++ l) are) h)
        where
          to : (y : ℤ) → (IsFirst k y ⊎ IsOf xs i y) ⊎ (y ≡ x) → IsFirst k y ⊎ IsOf xs (i + 1) y
          to y (inl (inl a)) = inl a
          to y (inl (inr b)) = inr (of_less xs i x at y (inl b))
          to y (inr e) = inr (of_less xs i x at y (inr e))

          back : (y : ℤ) → IsOf xs i y ⊎ (y ≡ x) → (IsFirst k y ⊎ IsOf xs i y) ⊎ (y ≡ x)
          back y (inl b) = inl (inr b)
          back y (inr e) = inr e

          from : (y : ℤ) → IsFirst k y ⊎ IsOf xs (i + 1) y → (IsFirst k y ⊎ IsOf xs i y) ⊎ (y ≡ x)
          from y (inl a) = inl (inl a)
          from y (inr b) = back y (of_more xs i x at y b)

      old_steps : steps_of (outcome (programs_of s) q x limit) ≡ n
      old_steps = steps_value (outcome (programs_of s) q x limit) v n was

      new_steps : steps_of (outcome (after s q p) q x limit) ≡ used
      new_steps = steps_value (outcome (after s q p) q x limit) v used now_is

      met : Dearer
      met = record { at = x; was = n; now = used }

      moved : (r : Option Dearer) → IsLeastOrNone s limit q p (λ y. IsOf xs i y ⊎ (y ≡ x)) r → IsLeastOrNone s limit q p (IsOf xs (i + 1)) r
      moved r h = least_same s limit q p (λ y. IsOf xs i y ⊎ (y ≡ x)) (IsOf xs (i + 1)) r (of_less xs i x at) (of_more xs i x at) h

      pub least_more : (known r : Option Dearer) (d : Dearer) → d ≡ record { at = x; was = n; now = used } → IsKnownOr known d r → IsLeastOrNone s limit q p (IsOf xs i) known → IsLeastOrNone s limit q p (IsOf xs (i + 1)) r
      least_more None r d is (inl k) h =
          moved r (subst (λ (o : Option Dearer). IsLeastOrNone s limit q p (λ y. IsOf xs i y ⊎ (y ≡ x)) o) (sym k.1)
          (least_here s limit q p (IsOf xs i) x d (ap (λ (z : Dearer). z.at) is) (ap (λ (z : Dearer). z.was) is ∙ sym old_steps) (ap (λ (z : Dearer). z.now) is ∙ sym new_steps) k.0 h))
      least_more None r d is (inr k) h =
          moved r (subst (λ (o : Option Dearer). IsLeastOrNone s limit q p (λ y. IsOf xs i y ⊎ (y ≡ x)) o) (sym k.1)
          (least_passed s limit q p (IsOf xs i) x (λ l. let a = old_steps in let b = new_steps in let c = k.0 in let e = ap (λ (z : Dearer). z.was) is in let f = ap (λ (z : Dearer). z.now) is in omega (arith, a, b, c, e, f, l)) h))
      least_more (Some known) r d is k h =
          moved r (subst (λ (o : Option Dearer). IsLeastOrNone s limit q p (λ y. IsOf xs i y ⊎ (y ≡ x)) o) (sym k)
          (least_kept s limit q p (IsOf xs i) x known (above_all xs i x dem.ascending at) h))

  -- ---- at the end

  pub kept_all : (n : ℕ) → length xs ≤ n → ListsDem s q xs → KeepsAt s limit q p (IsOf xs n) → KeepsAt s limit q p (InDem s q)
  kept_all n le dem h = keeps_same s limit q p (IsOf xs n) (InDem s q) (λ x d. of_all xs n x le ((dem.each x).1 d)) h

  pub least_all : (n : ℕ) (r : Option Dearer) → length xs ≤ n → ListsDem s q xs → IsLeastOrNone s limit q p (IsOf xs n) r → IsLeastOrNone s limit q p (InDem s q) r
  least_all n r le dem h = least_same s limit q p (IsOf xs n) (InDem s q) r (λ x a. (dem.each x).0 (of_contained xs n x a)) (λ x d. of_all xs n x le ((dem.each x).1 d)) h

  pub runs_all : (n k : ℕ) (runs : List NodeRun) → length xs ≤ n → ListsDem s q xs → AreRunsAt (after s q p) q limit (λ y. IsFirst k y ⊎ IsOf xs n y) runs → AreRunsAt (after s q p) q limit (λ y. IsFirst k y ⊎ InDem s q y) runs
  runs_all n k runs le dem h = same_at (after s q p) q limit (λ y. IsFirst k y ⊎ IsOf xs n y) (λ y. IsFirst k y ⊎ InDem s q y) runs to from h
    where
      to : (y : ℤ) → IsFirst k y ⊎ IsOf xs n y → IsFirst k y ⊎ InDem s q y
      to y (inl a) = inl a
      to y (inr b) = inr ((dem.each y).0 (of_contained xs n y b))

      from : (y : ℤ) → IsFirst k y ⊎ InDem s q y → IsFirst k y ⊎ IsOf xs n y
      from y (inl a) = inl a
      from y (inr d) = inr (of_all xs n y le ((dem.each y).1 d))
