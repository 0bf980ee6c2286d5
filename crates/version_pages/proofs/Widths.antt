-- What stands at a place of a table whose pages have any width, and what a write of one place makes of it.
use Rattle.std.proofs.Common.{◌≡◌, ℕ, ◌+◌, ◌*◌, ◌-◌, ◌/◌, ◌%◌, ◌<◌, ◌≤◌, ◌≢◌, List, length, refl, sym, ap, ◌∙◌, arith, inl, inr}
use Rattle.std.specs.Prelude.{Option, None, Some}
use Rattle.std.specs.Option.{option_and_then}
use Rattle.std.proofs.Math.Nat.{div-add-mod}
use Rattle.std.proofs.lemmas.Nat.{div-mul-add, mod-mul-add}
use Rattle.std.proofs.lemmas.Bool.{cases_lt, cases_eq}
use Rattle.std.proofs.lemmas.List.{get_or_past}
use Rattle.version_pages.specs.Table.{place, on_page}

-- what stands at a place, where each page has w places
abbrev pub in_width : {T : Type 0} → ℕ → List (Option (List (Option T))) → ℕ → Option T
in_width w table k = on_page table (k / w) (k % w)

-- past the last page there is nothing
pub on_page_past : {T : Type 0} (table : List (Option (List (Option T)))) (page at : ℕ) → length table ≤ page → on_page table page at ≡ None
on_page_past table page at past = ap (option_and_then (λ row. place row at)) (get_or_past table page None past)

-- `new` is `old` with one place of one page written
pub record IsPut {T : Type 0} (old new : List (Option (List (Option T)))) (page : List (Option T)) (at spot : ℕ) (value : T) : Type 0 where
  pub page_here : place page spot ≡ Some value
  pub page_others : (k : ℕ) → k ≢ spot → place page k ≡ on_page old at k
  pub table_here : place new at ≡ Some page
  pub table_others : (k : ℕ) → k ≢ at → place new k ≡ place old k

pub in_width-put_here : {T : Type 0} (w : ℕ) (old new : List (Option (List (Option T)))) (page : List (Option T)) (at : ℕ) (value : T)
    → IsPut old new page (at / w) (at % w) value → in_width w new at ≡ Some value
in_width-put_here w old new page at value is = rw is.table_here is.page_here

-- two places of one page differ within it
apart : (w q at : ℕ) → q ≢ at → q / w ≡ at / w → q % w ≢ at % w
apart w q at ne same = λ e. ne (sym (div-add-mod q w) ∙ ap (λ (d : ℕ). w * d + q % w) same ∙ ap (λ (r : ℕ). w * (at / w) + r) e ∙ div-add-mod at w)

-- where one place of one page may have changed and nothing else, all others have what they had
pub in_width-changed_other : {T : Type 0} (w : ℕ) (old new : List (Option (List (Option T)))) (at : ℕ)
    → ((k : ℕ) → k ≢ at / w → place new k ≡ place old k) → ((k : ℕ) → k ≢ at % w → on_page new (at / w) k ≡ on_page old (at / w) k)
    → (q : ℕ) → q ≢ at → in_width w new q ≡ in_width w old q
in_width-changed_other w old new at pages spots q ne =
    elim (cases_eq (q / w) (at / w)) [
      | inr away ↦ ap (option_and_then (λ p. place p (q % w))) (pages (q / w) away)
      | inl same ↦
          ap (λ (d : ℕ). on_page new d (q % w)) same
          ∙ spots (q % w) (apart w q at ne same)
          ∙ ap (λ (d : ℕ). on_page old d (q % w)) (sym same)
    ]

pub in_width-put_other : {T : Type 0} (w : ℕ) (old new : List (Option (List (Option T)))) (page : List (Option T)) (at : ℕ) (value : T)
    → IsPut old new page (at / w) (at % w) value → (q : ℕ) → q ≢ at → in_width w new q ≡ in_width w old q
in_width-put_other w old new page at value is q ne =
    in_width-changed_other w old new at is.table_others
    (λ k off. ap (option_and_then (λ p. place p k)) is.table_here ∙ is.page_others k off) q ne

-- what stands at a place, by its page and its place on the page
pub in_width-row : {T : Type 0} (w : ℕ) (table : List (Option (List (Option T)))) (page at : ℕ) → at < w → in_width w table (page * w + at) ≡ on_page table page at
in_width-row w table page at lt = rw (div-mul-add page w at lt, mod-mul-add page w at lt) refl

-- nothing that P holds of stands before a place, nor from there up to a later place of the same page
pub none_up_to : {T : Type 0} (w : ℕ) (table : List (Option (List (Option T)))) (P : ℕ → Type 0) (page from upto : ℕ) → upto ≤ w
    → ((k : ℕ) → P k → k < page * w + from → in_width w table k ≡ None)
    → ((k : ℕ) → from ≤ k → k < upto → on_page table page k ≡ None)
    → (k : ℕ) → P k → k < page * w + upto → in_width w table k ≡ None
none_up_to w table P page from upto le before none k among below =
    elim (cases_lt k (page * w + from)) [
      | inl lt ↦ before k among lt
      | inr ge ↦
          let spot : k - page * w < w = omega arith in
          let is : page * w + (k - page * w) ≡ k = omega arith in
          ap (in_width w table) (sym is) ∙ in_width-row w table page (k - page * w) spot ∙ none (k - page * w) (omega arith) (omega arith)
    ]
