-- One caller more for each pair on a list.
use Rattle.std.proofs.Common.{ℕ, suc, ◌+◌, ◌≡◌, ◌⊎◌, inl, inr, refl, sym, ap, subst, ◌∙◌, List, [], ◌∷◌, ◌++◌, Contains, arith}
use Rattle.std.proofs.lemmas.List.Elements.{Contains-append_left, Contains-push, Contains-push_cases}
use Rattle.loda_semantics.specs.declared.kinds.Pair.{Pair}
use Rattle.demand_table.specs.declared.slot.Slot.{Slot}
use Rattle.demand_table.specs.Work.{Slots, IsSet, AreRaised, with_callers}
use Rattle.demand_table.proofs.Counts.{nil-cases}
use Rattle.demand_table.proofs.Pairs.{pair_cases}

pub raised_none : (w : Slots) → AreRaised w w []
raised_none w = record { entry = λ q. refl; total = λ q. refl; raised = λ q at. absurd (nil-cases q at); same = λ q none. refl }

module _ (old w : Slots) (done : List Pair) (call : Pair) (h : AreRaised old w done) where
  -- a pair that was met already
  pub raised_again : Contains done call → AreRaised old w (done ++ call ∷ [])
  raised_again met = record {
    entry = h.entry;
    total = h.total;
    raised = λ q at. h.raised q (elim (Contains-push_cases done call q at) [ inl at ↦ at | inr e ↦ subst (Contains done) e met ]);
    same = λ q none. h.same q (λ at. none (Contains-append_left done (call ∷ []) q at));
  }

  -- one that is met now
  module _ (next : Slots) (new : Contains done call → ⊥) (step : IsSet w next call (with_callers (w call) ((w call).callers + 1))) where
    field : {Y : Type 0} (f : Slot → Y) → ((s : Slot) (n : ℕ) → f (with_callers s n) ≡ f s) → (q : Pair) → f (next q) ≡ f (w q)
    field {Y} f keeps q = by (pair_cases q call)
      where
        by : (q ≡ call) ⊎ (q ≡ call → ⊥) → f (next q) ≡ f (w q)
        by (inl e) = subst (λ (r : Pair). f (next r) ≡ f (w r)) (sym e) (ap f step.here ∙ keeps (w call) ((w call).callers + 1))
        by (inr other) = ap f (step.others q other)

    other : (q : Pair) → (q ≡ call → ⊥) → (next q).callers ≡ (w q).callers
    other q off = ap (λ (s : Slot). s.callers) (step.others q off)

    here : (next call).callers ≡ suc (old call).callers
    here =
        let e : (next call).callers ≡ (w call).callers + 1 = ap (λ (s : Slot). s.callers) step.here in
        let f = h.same call new in
        omega arith

    pub raised_one : AreRaised old next (done ++ call ∷ [])
    raised_one = record {
      entry = λ q. field (λ s. s.entry) (λ s n. refl) q ∙ h.entry q;
      total = λ q. field (λ s. s.total) (λ s n. refl) q ∙ h.total q;
      raised = λ q at. elim (Contains-push_cases done call q at) [
        | inl at ↦ other q (λ e. new (subst (Contains done) e at)) ∙ h.raised q at
        | inr e ↦ subst (λ (r : Pair). (next r).callers ≡ suc (old r).callers) e here
      ];
      same = λ q none. other q (λ e. none (subst (Contains (done ++ call ∷ [])) (sym e) (Contains-push done call))) ∙ h.same q (λ at. none (Contains-append_left done (call ∷ []) q at));
    }
