-- What a table of terms says of each of its rows.
use Rattle.std.proofs.Common.{ℕ, ◌≤◌, ◌≡◌, subst, ℤ, List, [], ◌∷◌, length, Bool, true, false, cond}
use Rattle.std.specs.Prelude.{find, All, IfSome, ◌==◌}
use Rattle.std.specs.declared.option.Option.{Option}
use Rattle.std.specs.declared.option.Option.TheVariants.{Some, None}
use Rattle.std.specs.Option.{option_map}
use Rattle.std.proofs.lemmas.List.Elements.{All-head, All-tail}
use Rattle.oeis_terms.specs.Table.{Row, Table, row_of, IsRow, IsTable, IsBounded}
use Rattle.judge.specs.Kept.{HasEight}

-- what holds of each member holds of the one that is found
found_in : {X : Type 0} (P : X → Type 0) (test : X → Bool) (xs : List X) → All P xs → IfSome (find test xs) P
found_in P test [] h = tt
found_in P test (x ∷ xs) h = by_test (test x) (found_in P test xs (All-tail P x xs h))
  where
    by_test : (b : Bool) → IfSome (find test xs) P → IfSome (cond b (Some x) (find test xs)) P
    by_test true rest = All-head P x xs h
    by_test false rest = rest

row_holds : (P : Row → Type 0) (Q : List ℤ → Type 0) (o : Option Row) (row : List ℤ) → ((r : Row) → P r → Q r.1) → IfSome o P → option_map (λ (r : Row). r.1) o ≡ Some row → Q row
row_holds P Q None row turn h e = absurd (let f : None ≡ Some row = e in cc)
row_holds P Q (Some r) row turn h e = let f : Some r.1 ≡ Some row = e in let g : r.1 ≡ row = cc in subst Q g (turn r h)

-- each row of a table has at least eight terms
pub eight_terms : (t : Table) → IsTable t → HasEight (row_of t)
eight_terms t h = λ q row e.
    row_holds IsRow (λ (ts : List ℤ). 8 ≤ length ts) (find (λ (r : Row). r.0 == q) t.rows) row (λ r k. k.terms) (found_in IsRow (λ (r : Row). r.0 == q) t.rows h.rows) e

-- and at most 32,768, where the table is bounded
pub bounded_row : (t : Table) → IsBounded t → (q : ℕ) (row : List ℤ) → row_of t q ≡ Some row → length row ≤ 32768
bounded_row t h = λ q row e.
    row_holds (λ (r : Row). length r.1 ≤ 32768) (λ (ts : List ℤ). length ts ≤ 32768) (find (λ (r : Row). r.0 == q) t.rows) row (λ r k. k) (found_in (λ (r : Row). length r.1 ≤ 32768) (λ (r : Row). r.0 == q) t.rows h) e
