-- What a table's map has at a name, and what a write of one place makes of it.
use Rattle.std.proofs.Common.{◌≡◌, ℕ, zero, suc, ◌+◌, ◌*◌, ◌/◌, ◌%◌, ◌<◌, ◌≤◌, ◌≢◌, List, [], length, refl, sym, ap, ◌∙◌, subst, arith, inl, inr}
use Rattle.std.specs.Prelude.{Option, None, Some, IsSome}
use Rattle.std.specs.Ordering.{nat_cmp}
use Rattle.std.specs.Cmp.{nat_cmp_total}
use Rattle.std.specs.FinMap.{FinMap, get, empty, insert, get-empty, same_map, nat_cmp-IsAntisymmetric, gets}
use Rattle.std.proofs.lemmas.Grind.{common_steps}
use Rattle.std.proofs.lemmas.Nat.{div-mul-add, mod-mul-add}
use Rattle.std.proofs.lemmas.Bool.{cases_lt, cases_eq}
use Rattle.version_pages.proofs.Widths.{on_page_past, IsPut, in_width-put_here, in_width-put_other, none_up_to}
use Rattle.version_pages.specs.Names.{HasNamesOnly, HasNoneAbove, IsNextName}
use Rattle.version_pages.specs.Table.{with_entry, map_below, on_page, at_name, map_of}

get-with_entry : {T : Type 0} (m : FinMap nat_cmp T) (n : ℕ) (v : Option T) (q : ℕ) → q ≢ n → get (with_entry m n v) q ≡ get m q
get-with_entry m n None q ne = refl
get-with_entry m n (Some v) q ne = grind (arith, gets, common_steps)

get-with_entry_same : {T : Type 0} (m : FinMap nat_cmp T) (n : ℕ) (v : Option T) → get m n ≡ None → get (with_entry m n v) n ≡ v
get-with_entry_same m n None none = none
get-with_entry_same m n (Some v) none = grind (arith, gets, common_steps)

-- nothing stands at the bound or above it
get-map_below_past : {T : Type 0} (f : ℕ → Option T) (n q : ℕ) → n ≤ q → get (map_below f n) q ≡ None
unfolding map_below
get-map_below_past f zero q le = get-empty nat_cmp q
get-map_below_past f (suc n) q le =
    let ne : q ≢ n = omega arith in
    let below : n ≤ q = omega arith in
    get-with_entry (map_below f n) n (f n) q ne ∙ get-map_below_past f n q below

get-map_below : {T : Type 0} (f : ℕ → Option T) (n q : ℕ) → q < n → get (map_below f n) q ≡ f q
unfolding map_below
get-map_below f zero q lt = absurd (omega arith)
get-map_below f (suc n) q lt =
    elim (cases_lt q n) [
      | inl below ↦
          let ne : q ≢ n = omega arith in
          get-with_entry (map_below f n) n (f n) q ne ∙ get-map_below f n q below
      | inr le ↦
          let same : q ≡ n = omega arith in
          subst (λ (k : ℕ). get (with_entry (map_below f n) n (f n)) k ≡ f k) (sym same)
          (get-with_entry_same (map_below f n) n (f n) (get-map_below_past f n n (omega arith)))
    ]

-- past the last page there is nothing
at_name_past : {T : Type 0} (table : List (Option (List (Option T)))) (q : ℕ) → 1000 * length table ≤ q → at_name table q ≡ None
at_name_past table q le = on_page_past table (q / 1000) (q % 1000) (omega arith)

pub get-map_of : {T : Type 0} (table : List (Option (List (Option T)))) (q : ℕ) → get (map_of table) q ≡ at_name table q
unfolding map_of
get-map_of table q =
    elim (cases_lt q (1000 * length table)) [
      | inl below ↦ get-map_below (at_name table) (1000 * length table) q below
      | inr past ↦ get-map_below_past (at_name table) (1000 * length table) q past ∙ sym (at_name_past table q past)
    ]

pub map_of-nil : {T : Type 0} → map_of {T = T} [] ≡ empty
unfolding map_of map_below
map_of-nil = refl

get-insert_same : {T : Type 0} (m : FinMap nat_cmp T) (n : ℕ) (v : T) → get (insert m n v) n ≡ Some v
get-insert_same m n v = grind (arith, gets, common_steps)

get-insert_other : {T : Type 0} (m : FinMap nat_cmp T) (n : ℕ) (v : T) (q : ℕ) → q ≢ n → get (insert m n v) q ≡ get m q
get-insert_other m n v q ne = grind (arith, gets, common_steps)

-- one place of one page is written: the map has one more value, or another one at its name
pub map_of-put : {T : Type 0} (old new : List (Option (List (Option T)))) (page : List (Option T)) (name : ℕ) (value : T)
    → IsPut old new page (name / 1000) (name % 1000) value → map_of new ≡ insert (map_of old) name value
map_of-put old new page name value is =
    same_map nat_cmp_total nat_cmp-IsAntisymmetric _ _
    (λ q. elim (cases_eq q name) [
      | inl e ↦ subst (λ (k : ℕ). get (map_of new) k ≡ get (insert (map_of old) name value) k) (sym e)
          (get-map_of new name ∙ in_width-put_here 1000 old new page name value is ∙ sym (get-insert_same (map_of old) name value))
      | inr ne ↦ get-map_of new q ∙ in_width-put_other 1000 old new page name value is q ne ∙ sym (get-insert_other (map_of old) name value q ne ∙ get-map_of old q)
    ])

-- what stands at a name, by its page and its place
pub at_name-row : {T : Type 0} (table : List (Option (List (Option T)))) (page at : ℕ) → at < 1000 → at_name table (page * 1000 + at) ≡ on_page table page at
at_name-row table page at lt = rw (div-mul-add page 1000 at lt, mod-mul-add page 1000 at lt) refl

-- no name of a page that the table lacks has anything
pub at_name_past_page : {T : Type 0} (table : List (Option (List (Option T)))) (page name : ℕ) → length table ≤ page → page * 1000 ≤ name → at_name table name ≡ None
at_name_past_page table page name past le = at_name_past table name (omega arith)

nothing : {A : Type 0} {o : Option A} → o ≡ None → IsSome o → ⊥
nothing e some = cc

-- each key of a table's map is a name
pub map_of-HasNamesOnly : {T : Type 0} (table : List (Option (List (Option T)))) → length table ≤ 1000 → at_name table 0 ≡ None → HasNamesOnly (map_of table)
map_of-HasNamesOnly table bound zeroth key some =
    let here : IsSome (at_name table key) = subst IsSome (get-map_of table key) some in
    elim (cases_lt key 1000000) [
      | inl lt ↦ elim (cases_lt 0 key) [
        | inl pos ↦ (omega arith, omega arith)
        | inr z ↦
            let is : key ≡ 0 = omega arith in
            elim (nothing (ap (at_name table) is ∙ zeroth) here) [ ]
      ]
      | inr ge ↦ elim (nothing (at_name_past table key (omega arith)) here) [ ]
    ]

-- the search for the next name has come to a place, and found nothing before it
pub record IsReached {T : Type 0} (table : List (Option (List (Option T)))) (after page from : ℕ) : Type 0 where
  pub small : from < 1000
  pub above : after < page * 1000 + from
  pub none : (name : ℕ) → after < name → name < page * 1000 + from → at_name table name ≡ None

-- the next place that holds something is the next name's
pub IsReached-found : {T : Type 0} (table : List (Option (List (Option T)))) (after page from at : ℕ) → IsReached table after page from → page < 1000
    → (from ≤ at) × (at < 1000) → IsSome (on_page table page at) → ((k : ℕ) → from ≤ k → k < at → on_page table page k ≡ None)
    → IsNextName (map_of table) after (page * 1000 + at)
IsReached-found table after page from at is few range found least =
    let late : from ≤ at = range.0 in
    let fits : at < 1000 = range.1 in
    let above_from : after < page * 1000 + from = is.above in
    record {
      name = (omega arith, omega arith);
      above = omega arith;
      holds = subst IsSome (sym (get-map_of table (page * 1000 + at) ∙ at_name-row table page at fits)) found;
      least = λ name above below. get-map_of table name ∙ none_up_to 1000 table (λ k. after < k) page from at (omega arith) is.none least name above below;
    }

-- and past the last page there is no name more
pub IsReached-done : {T : Type 0} (table : List (Option (List (Option T)))) (after page from : ℕ) → IsReached table after page from → length table ≤ page → HasNoneAbove (map_of table) after
IsReached-done table after page from is past name above =
    get-map_of table name
    ∙ elim (cases_lt name (page * 1000 + from)) [
      | inl below ↦ is.none name above below
      | inr le ↦ at_name_past_page table page name past (omega arith)
    ]
