-- The least argument that changes, of those that were met so far.
use Rattle.std.proofs.Common.{◌≡◌, refl, sym, subst, ◌∙◌, arith, ℤ, inl, inr, Bool, true, false}
use Rattle.std.specs.Prelude.{◌⊎◌, ◌<ℤ◌, ◌≤ℤ◌, IsTrue}
use Rattle.std.specs.declared.option.Option.{Option}
use Rattle.std.specs.declared.option.Option.TheVariants.{Some, None}
use Rattle.std.proofs.lemmas.Int.{by_lt_z, ints}
use Rattle.judge.specs.declared.comparing.BothRuns.{BothRuns}
use Rattle.judge.specs.declared.comparing.CheckedRun.{CheckedRun}
use Rattle.judge.specs.declared.comparing.Changed.{Changed}
use Rattle.judge.specs.declared.comparing.Changes.{Changes}
use Rattle.judge.specs.Changes.{OtherValue, NeedsMoreSteps, AtOrBefore, IsLeastChange, IsLeastChangeOrNone, AreChanges, IsLesser, IsNext}

pub by_test : (b : Bool) (P : Type 0) (known next : Option Changed) (met : Changed) → (IsTrue b → P) → (P → IsTrue b) → IsLesser b known met next → IsNext P known met next
by_test true P known next met to from k = inl (to refl, k)
by_test false P known next met to from k = inr (λ h. let e : false ≡ true = from h in cc, k)

here_or_after : (x y : ℤ) → x ≤ℤ y → (x <ℤ y) ⊎ (x ≡ y)
here_or_after x y le = by_lt_z x y inl (λ g. inr (omega (arith, ints)))

lesser-trans : (x y z : ℤ) → x <ℤ y → y <ℤ z → x <ℤ z
lesser-trans x y z a b = omega (arith, ints)

module _ (Kind : BothRuns → Type 0) (runs : ℤ → BothRuns) where
  pub same_relied : (Relied Other : CheckedRun → ℤ → Type 0) → ((r : CheckedRun) (x : ℤ) → Relied r x → Other r x) → ((r : CheckedRun) (x : ℤ) → Other r x → Relied r x)
      → (o : Option Changed) → IsLeastChangeOrNone Kind runs Relied o → IsLeastChangeOrNone Kind runs Other o
  same_relied Relied Other to from None h = λ r x k change. h r x (from r x k) change
  same_relied Relied Other to from (Some c) h = record {
    relied = to c.by c.at h.relied;
    runs_are = h.runs_are;
    changes = h.changes;
    least = λ r x k change. h.least r x (from r x k) change;
  }

  module _ (Relied : CheckedRun → ℤ → Type 0) (by : CheckedRun) (at : ℤ) (before : (r : CheckedRun) (x : ℤ) → Relied r x → AtOrBefore r by) where
    -- those that were met, and one more
    abbrev Then : CheckedRun → ℤ → Type 0
    Then r x = Relied r x ⊎ ((r ≡ by) × (x ≡ at))

    abbrev new : BothRuns → Changed
    new given = record { at = at; by = by; runs = given }

    at_or_before : (r : CheckedRun) → r ≡ by → AtOrBefore by r
    at_or_before r e = subst (λ (z : CheckedRun). AtOrBefore by z) (sym e) (inr (refl, omega arith))

    is_least : (given : BothRuns) → given ≡ runs at → Kind (runs at) → ((r : CheckedRun) (x : ℤ) → Relied r x → Kind (runs x) → at <ℤ x) → IsLeastChange Kind runs Then (new given)
    is_least given is change above = record { relied = inr (refl, refl); runs_are = is; changes = change; least = least }
      where
        least : (r : CheckedRun) (x : ℤ) → Then r x → Kind (runs x) → (at <ℤ x) ⊎ ((at ≡ x) × AtOrBefore by r)
        least r x (inl k) change = inl (above r x k change)
        least r x (inr k) change = inr (sym k.1, at_or_before r k.0)

    stays : (c : Changed) → IsLeastChange Kind runs Relied c → c.at ≤ℤ at → IsLeastChange Kind runs Then c
    stays c h le = record { relied = inl h.relied; runs_are = h.runs_are; changes = h.changes; least = least }
      where
        by_place : (r : CheckedRun) (x : ℤ) → r ≡ by → x ≡ at → (c.at <ℤ at) ⊎ (c.at ≡ at) → (c.at <ℤ x) ⊎ ((c.at ≡ x) × AtOrBefore c.by r)
        by_place r x e f (inl lt) = inl (subst (λ (z : ℤ). c.at <ℤ z) (sym f) lt)
        by_place r x e f (inr same) = inr (same ∙ sym f, subst (λ (z : CheckedRun). AtOrBefore c.by z) (sym e) (before c.by c.at h.relied))

        least : (r : CheckedRun) (x : ℤ) → Then r x → Kind (runs x) → (c.at <ℤ x) ⊎ ((c.at ≡ x) × AtOrBefore c.by r)
        least r x (inl k) change = h.least r x k change
        least r x (inr k) change = by_place r x k.0 k.1 (here_or_after c.at at le)

    above_all : (c : Changed) → IsLeastChange Kind runs Relied c → at <ℤ c.at → (r : CheckedRun) (x : ℤ) → Relied r x → Kind (runs x) → at <ℤ x
    above_all c h lt r x k change = by_place (h.least r x k change)
      where
        by_place : (c.at <ℤ x) ⊎ ((c.at ≡ x) × AtOrBefore c.by r) → at <ℤ x
        by_place (inl l) = lesser-trans at c.at x lt l
        by_place (inr e) = subst (λ (z : ℤ). at <ℤ z) e.0 lt

    -- where what was met changes nothing, all stays
    passed_over : (o : Option Changed) → (Kind (runs at) → ⊥) → IsLeastChangeOrNone Kind runs Relied o → IsLeastChangeOrNone Kind runs Then o
    passed_over None not h = none
      where
        none : (r : CheckedRun) (x : ℤ) → Then r x → Kind (runs x) → ⊥
        none r x (inl k) change = h r x k change
        none r x (inr k) change = not (subst (λ (z : ℤ). Kind (runs z)) k.1 change)
    passed_over (Some c) not h = record { relied = inl h.relied; runs_are = h.runs_are; changes = h.changes; least = least }
      where
        least : (r : CheckedRun) (x : ℤ) → Then r x → Kind (runs x) → (c.at <ℤ x) ⊎ ((c.at ≡ x) × AtOrBefore c.by r)
        least r x (inl k) change = h.least r x k change
        least r x (inr k) change = absurd (not (subst (λ (z : ℤ). Kind (runs z)) k.1 change))

    moved : (known next : Option Changed) → known ≡ next → IsLeastChangeOrNone Kind runs Then known → IsLeastChangeOrNone Kind runs Then next
    moved known next e h = subst (λ (o : Option Changed). IsLeastChangeOrNone Kind runs Then o) e h

    kept_new : (known next : Option Changed) (given : BothRuns) → given ≡ runs at → Kind (runs at) → IsLesser true known (new given) next → IsLeastChangeOrNone Kind runs Relied known → IsLeastChangeOrNone Kind runs Then next
    kept_new None next given is change k h = moved (Some (new given)) next (sym k) (is_least given is change (λ r x m other. absurd (h r x m other)))
    kept_new (Some c) next given is change (inl k) h = moved (Some c) next (sym k.1) (stays c h k.0)
    kept_new (Some c) next given is change (inr k) h = moved (Some (new given)) next (sym k.1) (is_least given is change (above_all c h k.0))

    pub one_more : (known next : Option Changed) (given : BothRuns) → given ≡ runs at → IsNext (Kind given) known (new given) next → IsLeastChangeOrNone Kind runs Relied known → IsLeastChangeOrNone Kind runs Then next
    one_more known next given is (inl k) h = kept_new known next given is (subst Kind is k.0) k.1 h
    one_more known next given is (inr k) h = moved known next (sym k.1) (passed_over known (λ change. k.0 (subst Kind (sym is) change)) h)

pub changes_more : (runs : ℤ → BothRuns) (Relied : CheckedRun → ℤ → Type 0) (by : CheckedRun) (at : ℤ) → ((r : CheckedRun) (x : ℤ) → Relied r x → AtOrBefore r by)
    → (known next : Changes) (given : BothRuns) → given ≡ runs at
    → IsNext (OtherValue given) known.other_value (record { at = at; by = by; runs = given }) next.other_value
    → IsNext (NeedsMoreSteps given) known.more_steps (record { at = at; by = by; runs = given }) next.more_steps
    → AreChanges runs Relied known → AreChanges runs (λ r x. Relied r x ⊎ ((r ≡ by) × (x ≡ at))) next
changes_more runs Relied by at before known next given is other more h = record {
  other_value = one_more OtherValue runs Relied by at before known.other_value next.other_value given is other h.other_value;
  more_steps = one_more NeedsMoreSteps runs Relied by at before known.more_steps next.more_steps given is more h.more_steps;
}

pub changes_same : (runs : ℤ → BothRuns) (Relied Other : CheckedRun → ℤ → Type 0) → ((r : CheckedRun) (x : ℤ) → Relied r x → Other r x) → ((r : CheckedRun) (x : ℤ) → Other r x → Relied r x)
    → (c : Changes) → AreChanges runs Relied c → AreChanges runs Other c
changes_same runs Relied Other to from c h = record {
  other_value = same_relied OtherValue runs Relied Other to from c.other_value h.other_value;
  more_steps = same_relied NeedsMoreSteps runs Relied Other to from c.more_steps h.more_steps;
}

pub changes_none : (runs : ℤ → BothRuns) (Relied : CheckedRun → ℤ → Type 0) → ((r : CheckedRun) (x : ℤ) → Relied r x → ⊥) → AreChanges runs Relied (record { other_value = None; more_steps = None })
changes_none runs Relied none = record { other_value = λ r x k change. none r x k; more_steps = λ r x k change. none r x k }
