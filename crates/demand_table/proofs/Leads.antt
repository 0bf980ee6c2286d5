-- Searching a pair that calls lead to.
use Rattle.std.proofs.Common.{ℕ, zero, suc, ◌+◌, ◌<◌, ◌≤◌, ◌≡◌, ◌⊎◌, inl, inr, refl, sym, ap, subst, ◌∙◌, pos, true, List, [], ◌∷◌, ◌++◌, Contains, take, length, get_or, append_assoc, arith}
use Rattle.std.specs.BTreeSet as sorted
use Rattle.std.specs.BTreeSet.{BTreeSet}
use Rattle.std.proofs.lemmas.Bool.{cases_lt}
use Rattle.std.proofs.lemmas.List.{take_more, take_all, take-append-le, append-nil, length-append}
use Rattle.std.proofs.lemmas.List.Elements.{Contains-append_left, Contains-append_cases, Contains-push, Contains-push_cases}
use Rattle.loda_semantics.specs.declared.kinds.Pair.{Pair}
use Rattle.demand_table.specs.Drawn.{Drawing}
use Rattle.demand_table.specs.Leading.{calls_at, Leads, LeadsTo, AreBarren, HasJust, AddsPairs}
use Rattle.demand_table.specs.Loaded.{Key, key_of, key_cmp, the_pair}
use Rattle.demand_table.proofs.Counts.{nil-cases, cons-cases}
use Rattle.demand_table.proofs.Loaded.{keys_apart}
use Rattle.demand_table.proofs.Pairs.{pair_cases}

-- ---- lists that grow by what was found

pub pairs_none : (pairs : List Pair) → AddsPairs pairs pairs []
pairs_none pairs = record { rest = []; grown = sym (append-nil pairs); adds = λ q at. absurd (nil-cases q at); only = λ q at. at }

pub pairs_again : (old now done : List Pair) (p : Pair) → AddsPairs old now done → Contains now p → AddsPairs old now (done ++ p ∷ [])
pairs_again old now done p h there = record {
  rest = h.rest;
  grown = h.grown;
  adds = λ q at. elim (Contains-push_cases done p q at) [ inl at ↦ h.adds q at | inr e ↦ subst (Contains now) e there ];
  only = λ q at. Contains-append_left done (p ∷ []) q (h.only q at);
}

pub pairs_more : (old now after done : List Pair) (p : Pair) → AddsPairs old now done → after ≡ now ++ p ∷ [] → AddsPairs old after (done ++ p ∷ [])
pairs_more old now after done p h e = record {
  rest = h.rest ++ p ∷ [];
  grown = e ∙ ap (λ (l : List Pair). l ++ p ∷ []) h.grown ∙ append_assoc old h.rest (p ∷ []);
  adds = λ q at. subst (λ (l : List Pair). Contains l q) (sym e) (elim (Contains-push_cases done p q at) [
    | inl at ↦ Contains-append_left now (p ∷ []) q (h.adds q at)
    | inr e ↦ subst (Contains (now ++ p ∷ [])) e (Contains-push now p)
  ]);
  only = λ q at. elim (Contains-push_cases h.rest p q at) [
    | inl at ↦ Contains-append_left done (p ∷ []) q (h.only q at)
    | inr e ↦ subst (Contains (done ++ p ∷ [])) e (Contains-push done p)
  ];
}

-- a pair that was met once more
pub just_again : (old new : BTreeSet Key) (list : List Pair) (p : Pair) → sorted.Updates key_cmp old new (key_of p) true → HasJust old list → Contains list p → HasJust new list
just_again old new list p updates h there q = by (pair_cases q p)
  where
    by : (q ≡ p) ⊎ (q ≡ p → ⊥) → (sorted.contains key_cmp new (key_of q) ≡ true → Contains list q) × (Contains list q → sorted.contains key_cmp new (key_of q) ≡ true)
    by (inl e) = (λ h. subst (Contains list) (sym e) there, λ at. subst (λ (r : Pair). sorted.contains key_cmp new (key_of r) ≡ true) (sym e) updates.1)
    by (inr other) =
        let same : sorted.contains key_cmp new (key_of q) ≡ sorted.contains key_cmp old (key_of q) = updates.2 (key_of q) (keys_apart p q other) in
        (λ k. (h q).0 (sym same ∙ k), λ at. same ∙ (h q).1 at)

-- ---- calls that lead on

module _ (D : Drawing) where
  leads_then : (n : ℕ) (from p to : Pair) → Leads D n from p → Contains (calls_at D p) to → Leads D (suc n) from to
  leads_then zero from p to e at = (to, subst (λ (r : Pair). Contains (calls_at D r) to) (sym e) at, refl)
  leads_then (suc n) from p to h at = (h.0, h.1, leads_then n h.0 p to h.2 at)

  none_leads : (to : Pair) (pairs : List Pair) → AreBarren D to pairs → (n : ℕ) (from : Pair) → Contains pairs from → Leads D (suc n) from to → ⊥
  none_leads to pairs barren zero from at h = (barren from at).0 (subst (Contains (calls_at D from)) h.2 h.1)
  none_leads to pairs barren (suc n) from at h = none_leads to pairs barren n h.0 ((barren from at).1 h.0 h.1) h.2

  -- ---- the search

  -- The pairs before the place do not call the one that is searched, and what they call is listed. What is listed was there before,
  -- or is reached from the first.
  pub record IsSearching (from to : Pair) (old pairs : List Pair) (at : ℕ) : Type 0 where
    pub barren : (p : Pair) → Contains (take at pairs) p → (Contains (calls_at D p) to → ⊥) × ((c : Pair) → Contains (calls_at D p) c → Contains pairs c)
    pub found : (p : Pair) → Contains pairs p → Contains old p ⊎ ((n : ℕ) × Leads D n from p)
    pub has : Contains pairs from
    pub within : at ≤ length pairs

  module _ (from to : Pair) (old : List Pair) (was_barren : AreBarren D to old) where
    pub search_starts : (pairs : List Pair) → AddsPairs old pairs (from ∷ []) → IsSearching from to old pairs (length old)
    search_starts pairs adds = record {
      barren = λ p at. let b = was_barren p (subst (λ (l : List Pair). Contains l p) front at) in (b.0, λ c k. grow c (b.1 c k));
      found = λ p at. elim (Contains-append_cases old adds.rest p (subst (λ (l : List Pair). Contains l p) adds.grown at)) [
        | inl k ↦ inl k
        | inr k ↦ inr (0, elim (cons-cases from [] p (adds.only p k)) [ inl e ↦ e | inr n ↦ absurd (nil-cases p n) ])
      ];
      has = adds.adds from (0, omega arith, refl);
      within = let e = ap length adds.grown ∙ length-append old adds.rest in omega arith;
    }
      where
        front : take (length old) pairs ≡ old
        front = ap (take (length old)) adds.grown ∙ take-append-le (length old) old adds.rest (omega arith) ∙ take_all (length old) old (omega arith)

        grow : (c : Pair) → Contains old c → Contains pairs c
        grow c at = subst (λ (l : List Pair). Contains l c) (sym adds.grown) (Contains-append_left old adds.rest c at)

    module _ (pairs : List Pair) (at : ℕ) (p : Pair) (lt : at < length pairs) (is : p ≡ get_or pairs at p) (h : IsSearching from to old pairs at) where
      pub search_on : (new : List Pair) → (Contains (calls_at D p) to → ⊥) → AddsPairs pairs new (calls_at D p) → IsSearching from to old new (at + 1)
      search_on new off adds = record {
        barren = barren;
        found = found;
        has = grow from h.has;
        within = let e = ap length adds.grown ∙ length-append pairs adds.rest in omega (arith, e, lt);
      }
        where
          grow : (c : Pair) → Contains pairs c → Contains new c
          grow c k = subst (λ (l : List Pair). Contains l c) (sym adds.grown) (Contains-append_left pairs adds.rest c k)

          front : take (at + 1) new ≡ take at pairs ++ p ∷ []
          front = ap (take (at + 1)) adds.grown ∙ take-append-le (at + 1) pairs adds.rest (omega (arith, lt)) ∙ take_more pairs at p lt ∙ ap (λ (r : Pair). take at pairs ++ r ∷ []) (sym is)

          barren : (r : Pair) → Contains (take (at + 1) new) r → (Contains (calls_at D r) to → ⊥) × ((c : Pair) → Contains (calls_at D r) c → Contains new c)
          barren r k = elim (Contains-push_cases (take at pairs) p r (subst (λ (l : List Pair). Contains l r) front k)) [
            | inl k ↦ let b = h.barren r k in (b.0, λ c m. grow c (b.1 c m))
            | inr e ↦ subst (λ (r : Pair). (Contains (calls_at D r) to → ⊥) × ((c : Pair) → Contains (calls_at D r) c → Contains new c)) e (off, adds.adds)
          ]

          there : Contains pairs p
          there = (at, lt, sym is)

          -- what the pair calls is reached as it is, or was there before with it
          onward : (c : Pair) → Contains (calls_at D p) c → Contains old p ⊎ ((n : ℕ) × Leads D n from p) → Contains old c ⊎ ((n : ℕ) × Leads D n from c)
          onward c k (inl o) = inl ((was_barren p o).1 c k)
          onward c k (inr l) = inr (suc l.0, leads_then l.0 from p c l.1 k)

          found : (r : Pair) → Contains new r → Contains old r ⊎ ((n : ℕ) × Leads D n from r)
          found r k = elim (Contains-append_cases pairs adds.rest r (subst (λ (l : List Pair). Contains l r) adds.grown k)) [
            | inl k ↦ h.found r k
            | inr k ↦ onward r (adds.only r k) (h.found p there)
          ]

      pub search_found : Contains (calls_at D p) to → LeadsTo D from to
      search_found k = by_case (h.found p (at, lt, sym is))
        where
          by_case : Contains old p ⊎ ((n : ℕ) × Leads D n from p) → LeadsTo D from to
          by_case (inl o) = absurd ((was_barren p o).0 k)
          by_case (inr l) = (l.0, leads_then l.0 from p to l.1 k)

    pub search_ends : (pairs : List Pair) (at : ℕ) → length pairs ≤ at → IsSearching from to old pairs at → AreBarren D to pairs × (LeadsTo D from to → ⊥)
    search_ends pairs at le h = (all, λ l. none_leads to pairs all l.0 from h.has l.1)
      where
        all : AreBarren D to pairs
        all p k = h.barren p (subst (λ (l : List Pair). Contains l p) (sym (take_all at pairs le)) k)

  -- one argument more from which no call leads to the pair
  pub none_next : (name : ℕ) (to : Pair) (index : ℕ) (from : Pair) → from ≡ the_pair name (pos index) → ((i : ℕ) → i < index → LeadsTo D (the_pair name (pos i)) to → ⊥) → (LeadsTo D from to → ⊥)
      → (i : ℕ) → i < index + 1 → LeadsTo D (the_pair name (pos i)) to → ⊥
  none_next name to index from is below off i lt l = elim (cases_lt i index) [
    | inl less ↦ below i less l
    | inr more ↦ let e : i ≡ index = omega (arith, lt, more) in off (subst (λ (p : Pair). LeadsTo D p to) (ap (λ (n : ℕ). the_pair name (pos n)) e ∙ sym is) l)
  ]
