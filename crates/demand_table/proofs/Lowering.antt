-- One caller fewer for each pair on a list.
use Rattle.std.proofs.Common.{ℕ, suc, ◌+◌, ◌<◌, ◌≡◌, ◌⊎◌, inl, inr, refl, sym, ap, subst, ◌∙◌, Bool, true, false, List, [], ◌∷◌, ◌++◌, Contains, length, take, get_or, arith}
use Rattle.std.specs.Prelude.{not}
use Rattle.std.specs.List.{list_any}
use Rattle.std.specs.Ordering.{is_eq}
use Rattle.std.specs.BTreeSet as sorted
use Rattle.std.specs.BTreeSet.{BTreeSet}
use Rattle.std.proofs.lemmas.List.{take_more}
use Rattle.std.proofs.lemmas.List.Elements.{Contains-append_left, Contains-push, Contains-push_cases}
use Rattle.loda_semantics.specs.declared.kinds.Pair.{Pair}
use Rattle.demand_table.specs.declared.slot.Slot.{Slot}
use Rattle.demand_table.specs.Work.{Slots, IsLowered, AreLowered}
use Rattle.demand_table.specs.Loaded.{Key, key_of, key_cmp}
use Rattle.demand_table.proofs.Counts.{nil-cases}
use Rattle.demand_table.proofs.Pairs.{pair_cases}
use Rattle.demand_table.proofs.Loaded.{keys_apart}

-- ---- what was met

-- the set has the pairs of the list
abbrev pub IsMet : BTreeSet Key → List Pair → Type 0
IsMet met list = (q : Pair) → (sorted.contains key_cmp met (key_of q) ≡ true → Contains list q) × (Contains list q → sorted.contains key_cmp met (key_of q) ≡ true)

pub met_none : (met : BTreeSet Key) → met.keys ≡ [] → IsMet met []
met_none met e q = (λ h. let f : sorted.contains key_cmp met (key_of q) ≡ false = empty met.keys e in cc, λ at. absurd (nil-cases q at))
  where
    empty : (keys : List Key) → keys ≡ [] → list_any (λ (k : Key). is_eq (key_cmp (key_of q) k)) keys ≡ false
    empty [] e = refl
    empty (k ∷ ks) e = cc

module _ (old new : BTreeSet Key) (done : List Pair) (call : Pair) (updates : sorted.Updates key_cmp old new (key_of call) true) (met : IsMet old done) where
  pub met_more : IsMet new (done ++ call ∷ [])
  met_more q = by (pair_cases q call)
    where
      by : (q ≡ call) ⊎ (q ≡ call → ⊥) → (sorted.contains key_cmp new (key_of q) ≡ true → Contains (done ++ call ∷ []) q) × (Contains (done ++ call ∷ []) q → sorted.contains key_cmp new (key_of q) ≡ true)
      by (inl e) = (
        λ h. subst (Contains (done ++ call ∷ [])) (sym e) (Contains-push done call),
        λ at. subst (λ (r : Pair). sorted.contains key_cmp new (key_of r) ≡ true) (sym e) updates.1,
      )
      by (inr other) =
          let same : sorted.contains key_cmp new (key_of q) ≡ sorted.contains key_cmp old (key_of q) = updates.2 (key_of q) (keys_apart call q other) in (
            λ h. Contains-append_left done (call ∷ []) q ((met q).0 (sym same ∙ h)),
            λ at. same ∙ (met q).1 (elim (Contains-push_cases done call q at) [ inl at ↦ at | inr e ↦ absurd (other (sym e)) ]),
          )

-- whether it was new, by what its insertion answered
pub was_new : (met : BTreeSet Key) (done : List Pair) (call : Pair) (added : Bool) → IsMet met done → added ≡ not (sorted.contains key_cmp met (key_of call)) → added ≡ true → Contains done call → ⊥
was_new met done call added h is true_ at = by (sorted.contains key_cmp met (key_of call)) ((h call).1 at) (sym is ∙ true_)
  where
    by : (b : Bool) → b ≡ true → not b ≡ true → ⊥
    by true e f = cc
    by false e f = cc

pub was_met : (met : BTreeSet Key) (done : List Pair) (call : Pair) (added : Bool) → IsMet met done → added ≡ not (sorted.contains key_cmp met (key_of call)) → added ≡ false → Contains done call
was_met met done call added h is false_ = (h call).0 (by (sorted.contains key_cmp met (key_of call)) (sym is ∙ false_))
  where
    by : (b : Bool) → not b ≡ false → b ≡ true
    by true f = refl
    by false f = cc

-- ---- one pair more

pub upto : (calls : List Pair) (i : ℕ) (call : Pair) → i < length calls → call ≡ get_or calls i call → take (i + 1) calls ≡ take i calls ++ call ∷ []
upto calls i call lt is = take_more calls i call lt ∙ ap (λ c. take i calls ++ c ∷ []) (sym is)

module _ (old w : Slots) (done pending now : List Pair) (call : Pair) (h : AreLowered old w done pending now) where
  -- a pair that was met already
  pub lowered_again : Contains done call → AreLowered old w (done ++ call ∷ []) pending now
  lowered_again met = record {
    entry = h.entry;
    total = h.total;
    lowered = λ q at. h.lowered q (was q at);
    same = λ q none. h.same q (λ at. none (Contains-append_left done (call ∷ []) q at));
    keeps = h.keeps;
    adds = λ q at. h.adds q (was q at);
  }
    where
      was : (q : Pair) → Contains (done ++ call ∷ []) q → Contains done q
      was q at = elim (Contains-push_cases done call q at) [ inl at ↦ at | inr e ↦ subst (Contains done) e met ]

  -- one that is met now
  module _ (next : Slots) (after : List Pair) (left : ℕ) (new : Contains done call → ⊥) (step : IsLowered w next call left)
      (grows : (q : Pair) → Contains now q → Contains after q) (joins : left ≡ 0 → Contains after call) where
    field : {Y : Type 0} (f : Slot → Y) → ((s : Slot) (n : ℕ) → f (record s { callers = n }) ≡ f s) → (q : Pair) → f (next q) ≡ f (w q)
    field {Y} f keeps q = by (pair_cases q call)
      where
        by : (q ≡ call) ⊎ (q ≡ call → ⊥) → f (next q) ≡ f (w q)
        by (inl e) = subst (λ (r : Pair). f (next r) ≡ f (w r)) (sym e) (ap f step.set.here ∙ keeps (w call) left)
        by (inr other) = ap f (step.set.others q other)

    is_left : (next call).callers ≡ left
    is_left = ap (λ (s : Slot). s.callers) step.set.here

    apart : (q : Pair) → Contains done q → q ≡ call → ⊥
    apart q at e = new (subst (Contains done) e at)

    other : (q : Pair) → (q ≡ call → ⊥) → (next q).callers ≡ (w q).callers
    other q off = ap (λ (s : Slot). s.callers) (step.set.others q off)

    here : (old call).callers ≡ suc (next call).callers
    here = sym (h.same call new) ∙ step.was ∙ ap suc (sym is_left)

    pub lowered_one : AreLowered old next (done ++ call ∷ []) pending after
    lowered_one = record {
      entry = λ q. field (λ s. s.entry) (λ s n. refl) q ∙ h.entry q;
      total = λ q. field (λ s. s.total) (λ s n. refl) q ∙ h.total q;
      lowered = λ q at. elim (Contains-push_cases done call q at) [
        | inl at ↦ h.lowered q at ∙ ap suc (sym (other q (apart q at)))
        | inr e ↦ subst (λ (r : Pair). (old r).callers ≡ suc (next r).callers) e here
      ];
      same = λ q none. other q (λ e. none (subst (Contains (done ++ call ∷ [])) (sym e) (Contains-push done call))) ∙ h.same q (λ at. none (Contains-append_left done (call ∷ []) q at));
      keeps = λ q at. grows q (h.keeps q at);
      adds = λ q at none. elim (Contains-push_cases done call q at) [
        | inl at ↦ grows q (h.adds q at (sym (other q (apart q at)) ∙ none))
        | inr e ↦ subst (Contains after) e (joins (sym is_left ∙ subst (λ (r : Pair). (next r).callers ≡ 0) (sym e) none))
      ];
    }

-- a pair that was not met has as many callers as at first
pub still_called : (old w : Slots) (done pending now : List Pair) (q : Pair) → AreLowered old w done pending now → (Contains done q → ⊥) → 0 < (old q).callers → 0 < (w q).callers
still_called old w done pending now q h none lt = let e = h.same q none in omega arith

pub lowered_none : (w : Slots) (pending : List Pair) → AreLowered w w [] pending pending
lowered_none w pending = record {
  entry = λ q. refl;
  total = λ q. refl;
  lowered = λ q at. absurd (nil-cases q at);
  same = λ q none. refl;
  keeps = λ q at. at;
  adds = λ q at none. absurd (nil-cases q at);
}

-- one more pair that was not met, whose last caller went or not
module _ (old w next : Slots) (done pending now after : List Pair) (call : Pair) (left : ℕ) (h : AreLowered old w done pending now) (new : Contains done call → ⊥) (step : IsLowered w next call left) where
  pub lowered_pushed : after ≡ now ++ call ∷ [] → AreLowered old next (done ++ call ∷ []) pending after
  lowered_pushed e =
      lowered_one old w done pending now call h next after left new step
      (λ q at. subst (λ (l : List Pair). Contains l q) (sym e) (Contains-append_left now (call ∷ []) q at))
      (λ _. subst (λ (l : List Pair). Contains l call) (sym e) (Contains-push now call))

  pub lowered_left : after ≡ now → (left ≡ 0 → ⊥) → AreLowered old next (done ++ call ∷ []) pending after
  lowered_left e some =
      lowered_one old w done pending now call h next after left new step
      (λ q at. subst (λ (l : List Pair). Contains l q) (sym e) at)
      (λ none. absurd (some none))
