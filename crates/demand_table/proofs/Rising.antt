-- A list of names that grows by the names that stand under its own.
use Rattle.std.proofs.Common.{ℕ, ◌+◌, ◌<◌, ◌≤◌, ◌≡◌, ◌⊎◌, inl, inr, refl, sym, ap, subst, ◌∙◌, Bool, true, false, List, [], ◌∷◌, ◌++◌, Contains, take, length, get_or, append_assoc, arith}
use Rattle.std.specs.Prelude.{not}
use Rattle.std.specs.Ordering.{nat_cmp}
use Rattle.std.specs.BTreeSet as sorted
use Rattle.std.specs.BTreeSet.{BTreeSet}
use Rattle.std.proofs.lemmas.Bool.{cases_eq}
use Rattle.std.proofs.lemmas.List.{take_more, take_all, take-append-le, append-nil, length-append}
use Rattle.std.proofs.lemmas.List.Elements.{Contains-append_left, Contains-push, Contains-push_cases}
use Rattle.demand_table.specs.Upward.{IsMetOnly, AddsNames}
use Rattle.demand_table.proofs.Counts.{nil-cases}
use Rattle.demand_table.proofs.Loaded.{names_apart}

pub adds_none : (names : List ℕ) → AddsNames names names []
adds_none names = record { rest = []; grown = sym (append-nil names); adds = λ q at. absurd (nil-cases q at) }

pub upto_name : (found : List ℕ) (i : ℕ) → i < length found → take (i + 1) found ≡ take i found ++ get_or found i 0 ∷ []
upto_name found i lt = take_more found i 0 lt

-- a name that was met is on the list already
pub adds_again : (old now done : List ℕ) (name : ℕ) → AddsNames old now done → Contains now name → AddsNames old now (done ++ name ∷ [])
adds_again old now done name h there = record {
  rest = h.rest;
  grown = h.grown;
  adds = λ q at. elim (Contains-push_cases done name q at) [ inl at ↦ h.adds q at | inr e ↦ subst (Contains now) e there ];
}

pub adds_more : (old now after done : List ℕ) (name : ℕ) → AddsNames old now done → after ≡ now ++ name ∷ [] → AddsNames old after (done ++ name ∷ [])
adds_more old now after done name h e = record {
  rest = h.rest ++ name ∷ [];
  grown = e ∙ ap (λ (l : List ℕ). l ++ name ∷ []) h.grown ∙ append_assoc old h.rest (name ∷ []);
  adds = λ q at. subst (λ (l : List ℕ). Contains l q) (sym e) (elim (Contains-push_cases done name q at) [
    | inl at ↦ Contains-append_left now (name ∷ []) q (h.adds q at)
    | inr e ↦ subst (Contains (now ++ name ∷ [])) e (Contains-push now name)
  ]);
}

-- what was met after one more insertion is on the list, where the name is
pub met_only : (old new : BTreeSet ℕ) (names : List ℕ) (name : ℕ) → sorted.Updates nat_cmp old new name true → IsMetOnly old names → Contains names name → IsMetOnly new names
met_only old new names name updates h there q at = by (cases_eq q name)
  where
    by : (q ≡ name) ⊎ (q ≡ name → ⊥) → Contains names q
    by (inl e) = subst (Contains names) (sym e) there
    by (inr other) = h q (sym (updates.2 q (names_apart name q other)) ∙ at)

pub met_longer : (met : BTreeSet ℕ) (names after : List ℕ) (name : ℕ) → after ≡ names ++ name ∷ [] → IsMetOnly met names → IsMetOnly met after
met_longer met names after name e h q at = subst (λ (l : List ℕ). Contains l q) (sym e) (Contains-append_left names (name ∷ []) q (h q at))

pub was_there : (met : BTreeSet ℕ) (names : List ℕ) (name : ℕ) (added : Bool) → IsMetOnly met names → added ≡ not (sorted.contains nat_cmp met name) → added ≡ false → Contains names name
was_there met names name added h is no' = h name (by (sorted.contains nat_cmp met name) (sym is ∙ no'))
  where
    by : (b : Bool) → not b ≡ false → b ≡ true
    by true f = refl
    by false f = cc

-- ---- closed upward, so far

pub record IsRising (under : ℕ → List ℕ) (names : List ℕ) (at : ℕ) : Type 0 where
  pub covered : (to from : ℕ) → Contains (take at names) to → Contains (under to) from → Contains names from
  pub within : at ≤ length names

pub rising_more : (under : ℕ → List ℕ) (names new : List ℕ) (at : ℕ) → at < length names → AddsNames names new (under (get_or names at 0)) → IsRising under names at → IsRising under new (at + 1)
rising_more under names new at lt adds h = record {
  covered = covered;
  within = let e = ap length adds.grown ∙ length-append names adds.rest in omega arith;
}
  where
    front : take (at + 1) new ≡ take at names ++ get_or names at 0 ∷ []
    front = ap (take (at + 1)) adds.grown ∙ take-append-le (at + 1) names adds.rest (omega arith) ∙ take_more names at 0 lt

    covered : (to from : ℕ) → Contains (take (at + 1) new) to → Contains (under to) from → Contains new from
    covered to from in' call = elim (Contains-push_cases (take at names) (get_or names at 0) to (subst (λ (l : List ℕ). Contains l to) front in')) [
      | inl at' ↦ subst (λ (l : List ℕ). Contains l from) (sym adds.grown) (Contains-append_left names adds.rest from (h.covered to from at' call))
      | inr e ↦ adds.adds from (subst (λ (r : ℕ). Contains (under r) from) (sym e) call)
    ]

pub rising_all : (under : ℕ → List ℕ) (names : List ℕ) (at : ℕ) → length names ≤ at → IsRising under names at → (to from : ℕ) → Contains names to → Contains (under to) from → Contains names from
rising_all under names at le h to from in' call = h.covered to from (subst (λ (l : List ℕ). Contains l to) (sym (take_all at names le)) in') call
