-- A name is on one of five lists, put one behind the other, where it is in a reach.
use Rattle.std.proofs.Common.{ℕ, ◌≡◌, sym, subst, inl, inr, List, [], ◌∷◌, ◌++◌, Contains}
use Rattle.std.specs.Prelude.{◌⊎◌, ◌↔◌}
use Rattle.std.proofs.lemmas.List.Elements.{Contains-append_left, Contains-append_right, Contains-append_cases, Contains-push, Contains-push_cases}
use Rattle.loda_syntax.specs.Programs.{Text}
use Rattle.program_store.specs.Store.{Store, programs_of}
use Rattle.program_store.specs.Graph.{CallsReach}
use Rattle.call_graph.specs.Closure.{ReachesByCall}
use Rattle.carry_over.specs.Stores.{IsInReach}

module _
    (older newer : Store)
    (q : ℕ)
    (p : Text)
    (proposed present above above2 : List ℕ)
    (r : ℕ)
    (in_proposed : Contains proposed r ↔ CallsReach (programs_of older) p r)
    (in_present : Contains present r ↔ ReachesByCall (programs_of older) q r)
    (in_above : Contains above r ↔ ReachesByCall (programs_of older) r q)
    (in_above2 : Contains above2 r ↔ ReachesByCall (programs_of newer) r q)
  where
    abbrev one : List ℕ
    one = proposed ++ q ∷ []

    abbrev two : List ℕ
    two = one ++ present

    abbrev three : List ℕ
    three = two ++ above

    from_one : Contains one r → Contains (three ++ above2) r
    from_one h = Contains-append_left three above2 r (Contains-append_left two above r (Contains-append_left one present r h))

    there : IsInReach older newer q p r → Contains (three ++ above2) r
    there (inl e) = from_one (subst (Contains one) (sym e) (Contains-push proposed q))
    there (inr (inl h)) = from_one (Contains-append_left proposed (q ∷ []) r (in_proposed.1 h))
    there (inr (inr (inl h))) = Contains-append_left three above2 r (Contains-append_left two above r (Contains-append_right one present r (in_present.1 h)))
    there (inr (inr (inr (inl h)))) = Contains-append_left three above2 r (Contains-append_right two above r (in_above.1 h))
    there (inr (inr (inr (inr h)))) = Contains-append_right three above2 r (in_above2.1 h)

    by_one : Contains proposed r ⊎ (q ≡ r) → IsInReach older newer q p r
    by_one (inl h) = inr (inl (in_proposed.0 h))
    by_one (inr e) = inl (sym e)

    by_two : Contains one r ⊎ Contains present r → IsInReach older newer q p r
    by_two (inl h) = by_one (Contains-push_cases proposed q r h)
    by_two (inr h) = inr (inr (inl (in_present.0 h)))

    by_three : Contains two r ⊎ Contains above r → IsInReach older newer q p r
    by_three (inl h) = by_two (Contains-append_cases one present r h)
    by_three (inr h) = inr (inr (inr (inl (in_above.0 h))))

    by_four : Contains three r ⊎ Contains above2 r → IsInReach older newer q p r
    by_four (inl h) = by_three (Contains-append_cases two above r h)
    by_four (inr h) = inr (inr (inr (inr (in_above2.0 h))))

    pub reach_listed : Contains (((one ++ present) ++ above) ++ above2) r ↔ IsInReach older newer q p r
    reach_listed = (λ h. by_four (Contains-append_cases three above2 r h), there)
