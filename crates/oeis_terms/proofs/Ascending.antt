-- Rows in ascending order of name, and the look-up of a name.
use Rattle.std.proofs.Common.{◌≡◌, ℕ, zero, suc, ◌+◌, ◌<◌, ◌≤◌, Bool, true, false, cond, eqb, List, [], ◌∷◌, length, get_or, refl, sym, ap, ◌∙◌, arith, Bor}
use Rattle.std.specs.Prelude.{ℤ, IfSome, Option, Some, None, find, ◌==◌}
use Rattle.std.specs.Option.{option_map}
use Rattle.std.specs.List.{AllByRecursion, HoldsAt}
use Rattle.std.specs.List.Sorted.{IsPartitionPoint, IsNonDecreasingBy, IsSortedBy}
use Rattle.std.specs.Ordering.{nat_cmp, ordering_index, is_lt}
use Rattle.std.specs.declared.cmp.Ordering.TheVariants.{Less, Equal, Greater}
use Rattle.std.proofs.lemmas.Bool.Decides.{nat_tests}
use Rattle.std.proofs.lemmas.Cmp.{nat_cmp_total}
use Rattle.std.proofs.lemmas.List.Sorted.{searchable_from_sorted}
use Rattle.oeis_terms.specs.Table.{Row, Table, IsRow, IsTable, IsBounded, HasAscendingNames, row_of}

-- a name that is less than those of rows is less than that of each of them
pub below_at : (n : ℕ) (rows : List Row) → AllByRecursion (λ s. n < s.0) rows → (k : ℕ) (d : Row) → k < length rows → n < (get_or rows k d).0
below_at n [] h k d lt = absurd (omega arith)
below_at n (r ∷ rs) h zero d lt = h.0
below_at n (r ∷ rs) h (suc k) d lt = below_at n rs h.1 k d (omega arith)

-- names rise along the rows
pub names_rise : (rows : List Row) → HasAscendingNames rows → (i j : ℕ) (d : Row) → i < j → j < length rows → (get_or rows i d).0 < (get_or rows j d).0
names_rise [] h i j d lt le = absurd (omega arith)
names_rise (r ∷ rs) h zero zero d lt le = absurd (omega arith)
names_rise (r ∷ rs) h zero (suc j) d lt le = below_at r.0 rs h.0 j d (omega arith)
names_rise (r ∷ rs) h (suc i) zero d lt le = absurd (omega arith)
names_rise (r ∷ rs) h (suc i) (suc j) d lt le = names_rise rs h.1 i j d (omega arith) (omega arith)

find_none : (rows : List Row) (name : ℕ) → ((k : ℕ) (d : Row) → k < length rows → eqb (get_or rows k d).0 name ≡ false) → find (λ r. r.0 == name) rows ≡ None
find_none [] name h = refl
find_none (r ∷ rs) name h = let other = h zero r (omega arith) in rw other (find_none rs name (λ k d lt. h (suc k) d (omega arith)))

find_at : (rows : List Row) (name k : ℕ) (d : Row) → HasAscendingNames rows → k < length rows → (get_or rows k d).0 ≡ name → find (λ r. r.0 == name) rows ≡ Some (get_or rows k d)
find_at [] name k d h lt e = absurd (omega arith)
find_at (r ∷ rs) name zero d h lt e = let same : eqb r.0 name ≡ true = grind (arith, nat_tests, e) in rw same refl
find_at (r ∷ rs) name (suc k) d h lt e =
    let rises = below_at r.0 rs h.0 k d (omega arith) in
    let other : eqb r.0 name ≡ false = grind (arith, nat_tests, e, rises) in
    rw other (find_at rs name k d h.1 (omega arith) e)

-- ---- a search by halves

pub row_found : (rows : List Row) (name place : ℕ) (row : Row) → HasAscendingNames rows → place < length rows → HoldsAt (λ (y : Row). nat_cmp y.0 name ≡ Equal) rows place → row ≡ get_or rows place row
    → find (λ (r : Row). r.0 == name) rows ≡ Some row
row_found rows name place row h lt equal is =
    let cmp : nat_cmp (get_or rows place row).0 name ≡ Equal = equal row in
    let same : (get_or rows place row).0 ≡ name = grind (arith, nat_tests, cmp) in
    find_at rows name place row h lt same ∙ ap (λ (r : Row). Some r) (sym is)

differs : (a n k i : ℕ) → (k < i → nat_cmp a n ≡ Less) → (i ≤ k → nat_cmp a n ≡ Greater) → eqb a n ≡ false
differs a n k i less greater = grind (arith, nat_tests)

not_less : (a b : ℕ) → a < b → is_lt (nat_cmp b a) ≡ false
not_less a b lt = grind (arith, nat_tests)

sorted_rows : (rows : List Row) → HasAscendingNames rows → IsSortedBy (λ (a b : Row). is_lt (nat_cmp a.0 b.0)) rows
sorted_rows rows h k d low lt = not_less (get_or rows k d).0 (get_or rows (k + 1) d).0 (names_rise rows h k (k + 1) d (omega arith) lt)

pub row_absent : (rows : List Row) (name place : ℕ) → HasAscendingNames rows
    → (IsNonDecreasingBy (λ (y : Row). ordering_index (nat_cmp y.0 name)) rows → IsPartitionPoint (λ (y : Row). nat_cmp y.0 name ≡ Less) (λ (y : Row). nat_cmp y.0 name ≡ Greater) rows place)
    → find (λ (r : Row). r.0 == name) rows ≡ None
row_absent rows name place h searched =
    let point = searched (searchable_from_sorted nat_cmp_total (λ (r : Row). r.0) rows name (sorted_rows rows h)) in
    find_none rows name (λ k d lt. differs (get_or rows k d).0 name k place (λ less. point.0 k d (omega arith) less) (λ more. point.1 k d more lt))

-- ---- what holds of each row holds of the one that is found

found_of : (P : Row → Type 0) (rows : List Row) (name : ℕ) (terms : List ℤ) → ((k : ℕ) (d : Row) → k < length rows → P (get_or rows k d)) → option_map (λ (r : Row). r.1) (find (λ (r : Row). r.0 == name) rows) ≡ Some terms
    → (row : Row) × P row × (row.1 ≡ terms)
found_of P [] name terms h e = absurd cc
found_of P (r ∷ rs) name terms h e = in_case (eqb r.0 name) e (found_of P rs name terms (λ k d lt. h (suc k) d (omega arith)))
  where
    in_case : (b : Bool) → option_map (λ (s : Row). s.1) (cond b (Some r) (find (λ (s : Row). s.0 == name) rs)) ≡ Some terms
        → (option_map (λ (s : Row). s.1) (find (λ (s : Row). s.0 == name) rs) ≡ Some terms → (row : Row) × P row × (row.1 ≡ terms)) → (row : Row) × P row × (row.1 ≡ terms)
    in_case true e' rest = (r, h zero r (omega arith), cc)
    in_case false e' rest = rest e'

-- a row has at least eight terms
pub row_of-enough : (table : Table) (name : ℕ) (terms : List ℤ) → IsTable table → row_of table name ≡ Some terms → 8 ≤ length terms
row_of-enough table name terms h e =
    let row = found_of IsRow table.rows name terms h.rows e in
    let enough = row.1.terms in
    omega (arith, enough, ap length row.2)

-- a row of a bounded table has at most 32,768 terms
pub row_of-bounded : (table : Table) (name : ℕ) (terms : List ℤ) → IsBounded table → row_of table name ≡ Some terms → length terms ≤ 32_768
row_of-bounded table name terms h e =
    let row = found_of (λ (r : Row). length r.1 ≤ 32_768) table.rows name terms h e in
    omega (arith, row.1, ap length row.2)

pub IfSome-enough : (table : Table) (name : ℕ) (found : Option (Bor (List ℤ))) → IsTable table → option_map (λ t. t.now) found ≡ row_of table name → IfSome found (λ t. 8 ≤ length t.now)
IfSome-enough table name None h e = tt
IfSome-enough table name (Some t) h e = row_of-enough table name t.now h (sym e)

pub IfSome-bounded : (table : Table) (name : ℕ) (found : Option (Bor (List ℤ))) → IsBounded table → option_map (λ t. t.now) found ≡ row_of table name → IfSome found (λ t. length t.now ≤ 32_768)
IfSome-bounded table name None h e = tt
IfSome-bounded table name (Some t) h e = row_of-bounded table name t.now h (sym e)
