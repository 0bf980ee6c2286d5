-- Totals are forgotten, one after the other.
use Rattle.std.proofs.Common.{ℕ, ◌+◌, ◌≡◌, ◌⊎◌, inl, inr, refl, sym, ap, subst, ◌∙◌, true, false, List, [], ◌∷◌, ◌++◌, Contains, add-one}
use Rattle.std.specs.Prelude.{IsSome}
use Rattle.std.specs.declared.option.Option.{Option}
use Rattle.std.specs.declared.option.Option.TheVariants.{None}
use Rattle.std.proofs.lemmas.List.Elements.{Contains-append_left, Contains-push, Contains-push_cases}
use Rattle.loda_semantics.specs.declared.kinds.Pair.{Pair}
use Rattle.demand_table.specs.declared.entry.Entry.{Entry}
use Rattle.demand_table.specs.declared.slot.Slot.{Slot}
use Rattle.demand_table.specs.Counts.{IsCount}
use Rattle.demand_table.specs.Work.{Slots}
use Rattle.demand_table.specs.Settling.{IsUnsettled}
use Rattle.demand_table.specs.Mending.{without_total, IsForgot, IsForgetting}
use Rattle.demand_table.proofs.Counts.{nil-cases, count_more}
use Rattle.demand_table.proofs.Counted.{none_is_some}
use Rattle.demand_table.proofs.Pairs.{pair_cases}

pub forgotten_none : (w : Slots) (listed : List Pair) → ((p : Pair) → IsUnsettled w p → ⊥) → ((p : Pair) → Contains listed p → ⊥) → IsForgetting w w [] listed 0
forgotten_none w listed settled none = record {
  entry = λ p. refl;
  callers = λ p. refl;
  totals = λ p. inr refl;
  gone = λ p at here. absurd (nil-cases p at);
  all = λ p h. absurd (settled p h);
  stand = λ p at. absurd (none p at);
  count = record { things = []; differ = tt; exact = λ p. (λ h. absurd (settled p h), λ at. absurd (nil-cases p at)); count = refl };
}

module _ (old w new : Slots) (done listed after : List Pair) (many : ℕ) (p : Pair) (h : IsForgetting old w done listed many) where
  pub forgot_again : IsForgot w new p false → IsForgetting old new (done ++ p ∷ []) listed many
  forgot_again kept = subst (λ (k : Slots). IsForgetting old k (done ++ p ∷ []) listed many) (sym same) (record {
    entry = h.entry;
    callers = h.callers;
    totals = h.totals;
    gone = λ q at here. elim (Contains-push_cases done p q at) [
      | inl at ↦ h.gone q at here
      | inr e ↦ subst (λ (r : Pair). (w r).total ≡ None) e (kept.0 (subst (λ (r : Pair). IsSome (w r).entry) (sym e) here))
    ];
    all = h.all;
    stand = h.stand;
    count = h.count;
  })
    where
      same : new ≡ w
      same = λ i q. kept.1 q i

  module _ (forgot : IsForgot w new p true) (grown : after ≡ listed ++ p ∷ []) where
    field : {Y : Type 0} (f : Slot → Y) → ((s : Slot) → f (without_total s) ≡ f s) → (q : Pair) → f (new q) ≡ f (w q)
    field {Y} f keeps q = by (pair_cases q p)
      where
        by : (q ≡ p) ⊎ (q ≡ p → ⊥) → f (new q) ≡ f (w q)
        by (inl e) = subst (λ (r : Pair). f (new r) ≡ f (w r)) (sym e) (ap f forgot.2.here ∙ keeps (w p))
        by (inr other) = ap f (forgot.2.others q other)

    entry : (q : Pair) → (new q).entry ≡ (w q).entry
    entry q = field (λ s. s.entry) (λ s. refl) q

    here_none : (new p).total ≡ None
    here_none = ap (λ (s : Slot). s.total) forgot.2.here

    other_total : (q : Pair) → (q ≡ p → ⊥) → (new q).total ≡ (w q).total
    other_total q other = ap (λ (s : Slot). s.total) (forgot.2.others q other)

    grows : (q : Pair) → Contains listed q → Contains after q
    grows q at = subst (λ (l : List Pair). Contains l q) (sym grown) (Contains-append_left listed (p ∷ []) q at)

    stands : IsSome (new p).entry
    stands = subst (λ (o : Option Entry). IsSome o) (sym (entry p)) forgot.0

    still : (q : Pair) → IsUnsettled w q → IsUnsettled new q
    still q k = record {
      stands = subst (λ (o : Option Entry). IsSome o) (sym (entry q)) k.stands;
      unknown = by (pair_cases q p);
    }
      where
        by : (q ≡ p) ⊎ (q ≡ p → ⊥) → (new q).total ≡ None
        by (inl e) = subst (λ (r : Pair). (new r).total ≡ None) (sym e) here_none
        by (inr other) = other_total q other ∙ k.unknown

    was : (q : Pair) → IsUnsettled new q → (q ≡ p) ⊎ IsUnsettled w q
    was q k = by (pair_cases q p)
      where
        by : (q ≡ p) ⊎ (q ≡ p → ⊥) → (q ≡ p) ⊎ IsUnsettled w q
        by (inl e) = inl e
        by (inr other) = inr (record { stands = subst (λ (o : Option Entry). IsSome o) (entry q) k.stands; unknown = sym (other_total q other) ∙ k.unknown })

    pub forgot_more : IsForgetting old new (done ++ p ∷ []) after (many + 1)
    forgot_more = record {
      entry = λ q. entry q ∙ h.entry q;
      callers = λ q. field (λ s. s.callers) (λ s. refl) q ∙ h.callers q;
      totals = λ q. elim (pair_cases q p) [
        | inl e ↦ inl (subst (λ (r : Pair). (new r).total ≡ None) (sym e) here_none)
        | inr other ↦ elim (h.totals q) [ inl none ↦ inl (other_total q other ∙ none) | inr e ↦ inr (other_total q other ∙ e) ]
      ];
      gone = λ q at here. elim (Contains-push_cases done p q at) [
        | inl at ↦ (still q (record { stands = subst (λ (o : Option Entry). IsSome o) (entry q) here; unknown = h.gone q at (subst (λ (o : Option Entry). IsSome o) (entry q) here) })).unknown
        | inr e ↦ subst (λ (r : Pair). (new r).total ≡ None) e here_none
      ];
      all = λ q k. elim (was q k) [
        | inl e ↦ subst (λ (l : List Pair). Contains l q) (sym grown) (subst (Contains (listed ++ p ∷ [])) (sym e) (Contains-push listed p))
        | inr k ↦ grows q (h.all q k)
      ];
      stand = λ q at. elim (Contains-push_cases listed p q (subst (λ (l : List Pair). Contains l q) grown at)) [
        | inl at ↦ subst (λ (o : Option Entry). IsSome o) (sym (entry q)) (h.stand q at)
        | inr e ↦ subst (λ (r : Pair). IsSome (new r).entry) e stands
      ];
      count = subst (λ (n : ℕ). IsCount (IsUnsettled new) n) (sym (add-one many))
          (count_more (IsUnsettled w) (IsUnsettled new) many p (λ k. none_is_some (w p).total k.unknown forgot.1) was (record { stands = stands; unknown = here_none }) still h.count);
    }
