-- Made rows are those of a table: their names ascend, and each has ten terms.
use Rattle.std.proofs.Common.{ℕ, zero, suc, ◌+◌, ◌<◌, ◌≤◌, ◌≡◌, refl, sym, ap, arith, List, [], ◌∷◌, ◌++◌, length, pos, All, cond, eqb, true, false, Bool}
use Rattle.std.specs.Prelude.{◌==◌, sum_by}
use Rattle.std.specs.List.{AllByRecursion}
use Rattle.std.proofs.lemmas.List.{length_push}
use Rattle.std.proofs.lemmas.List.Elements.{All-nil, All-push}
use Rattle.std.proofs.lemmas.List.Sorted.{IsPermutation-refl}
use Rattle.std.proofs.lemmas.List.Sums.{sum_by_push}
use Rattle.oeis_terms.specs.Table.{Row, IsRow, HasAscendingNames, IsBounded, NamesDiffer, by_name}
use Rattle.oeis_terms.proofs.Sorting.{sorted_is_by_name}
use Rattle.made_input.specs.Values.{term, first_terms, row, rows, made_table}

length-terms : (i k : ℕ) → length (first_terms i k) ≡ k
length-terms i zero = refl
length-terms i (suc k) = let before = length-terms i k in omega (arith, before, length_push (first_terms i k) (pos (term i k)))

is_row : (i : ℕ) → i < 20000 → IsRow (row i)
is_row i few = record { terms = (let ten = length-terms i 10 in omega (arith, ten)); positive = omega arith; six_digits = omega (arith, few) }

pub are_rows : (n : ℕ) → n ≤ 20000 → All IsRow (rows n)
are_rows zero few = All-nil IsRow
are_rows (suc i) few = All-push IsRow (rows i) (row i) (are_rows i (omega (arith, few))) (is_row i (omega (arith, few)))

pub bounded : (n : ℕ) → IsBounded (made_table n)
bounded zero = All-nil _
bounded (suc i) = All-push (λ (r : Row). length r.1 ≤ 32_768) (rows i) (row i) (bounded i) (let ten = length-terms i 10 in omega (arith, ten))

-- ---- names

each_push : (P : Row → Type 0) (rs : List Row) (x : Row) → AllByRecursion P rs → P x → AllByRecursion P (rs ++ x ∷ [])
each_push P [] x h k = (k, tt)
each_push P (r ∷ rs) x h k = (h.0, each_push P rs x h.1 k)

ascending_push : (rs : List Row) (x : Row) → HasAscendingNames rs → AllByRecursion (λ (s : Row). s.0 < x.0) rs → HasAscendingNames (rs ++ x ∷ [])
ascending_push [] x h k = (tt, tt)
ascending_push (r ∷ rs) x h k = (each_push (λ (s : Row). r.0 < s.0) rs x h.0 k.0, ascending_push rs x h.1 k.1)

names_below : (n m : ℕ) → n < m → AllByRecursion (λ (s : Row). s.0 < m) (rows n)
names_below zero m lt = tt
names_below (suc i) m lt = each_push (λ (s : Row). s.0 < m) (rows i) (row i) (names_below i m (omega (arith, lt))) (omega (arith, lt))

ascending : (n : ℕ) → HasAscendingNames (rows n)
ascending zero = tt
ascending (suc i) = ascending_push (rows i) (row i) (ascending i) (names_below i (i + 1) (omega arith))

abbrev named : ℕ → Row → ℕ
named name r = cond (r.0 == name) 1 0

none_named : (name n : ℕ) → n < name → sum_by (named name) (rows n) ≡ 0
none_named name zero lt = refl
none_named name (suc i) lt =
    let before = none_named name i (omega (arith, lt)) in
    let other : named name (row i) ≡ 0 = grind (arith, lt) in
    omega (arith, before, other, sum_by_push (named name) (rows i) (row i))

pub names_differ : (n : ℕ) → NamesDiffer (rows n)
names_differ zero name = omega arith
names_differ (suc i) name = by_test (eqb (i + 1) name) refl (names_differ i name)
  where
    more : sum_by (named name) (rows (suc i)) ≡ sum_by (named name) (rows i) + named name (row i)
    more = sum_by_push (named name) (rows i) (row i)

    by_test : (b : Bool) → eqb (i + 1) name ≡ b → sum_by (named name) (rows i) ≤ 1 → sum_by (named name) (rows (suc i)) ≤ 1
    by_test true e few = let none = none_named name i (grind (arith, e)) in let one : named name (row i) ≡ 1 = ap (λ (b : Bool). cond b 1 0) e in omega (arith, none, one, more)
    by_test false e few = let other : named name (row i) ≡ 0 = ap (λ (b : Bool). cond b 1 0) e in omega (arith, few, other, more)

-- the rows stand in the order of their names already
pub in_order : (n : ℕ) → by_name (rows n) ≡ rows n
in_order n = sym (sorted_is_by_name (rows n) (rows n) (IsPermutation-refl (rows n)) (ascending n) (names_differ n))
