-- A small table, by hand: three pages, of which the second is absent.
use Rattle.std.proofs.Common.{◌≡◌, ℕ, List, [], ◌∷◌, refl}
use Rattle.std.specs.Prelude.{Option, None, Some}
use Rattle.version_pages.specs.Table.{place, on_page, at_name}

abbrev pub small_table : List (Option (List (Option ℕ)))
small_table = Some (None ∷ Some 11 ∷ None ∷ Some 13 ∷ []) ∷ None ∷ Some (Some 20 ∷ []) ∷ []

at-1 : at_name small_table 1 ≡ Some 11
at-1 = refl

at-2 : at_name small_table 2 ≡ None
at-2 = refl

at-3 : at_name small_table 3 ≡ Some 13
at-3 = refl

past_the_row : at_name small_table 999 ≡ None
past_the_row = refl

absent_page : at_name small_table 1003 ≡ None
absent_page = refl

at-2000 : at_name small_table 2000 ≡ Some 20
at-2000 = refl

past_the_table : at_name small_table 999999 ≡ None
past_the_table = refl

first_of_third_page : on_page small_table 2 0 ≡ Some 20
first_of_third_page = refl

no_place : place {T = ℕ} (Some 5 ∷ []) 1 ≡ None
no_place = refl
