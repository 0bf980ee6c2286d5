-- A table of terms, and how a table is made of rows.
use Rattle.std.specs.Prelude.{ℕ, ◌<◌, ◌≤◌, ◌==◌, nat_le, nat_lt, not, Bool, if◌then◌else◌, ℤ, List, [], ◌∷◌, length, filter, find, count_by, All, Option}
use Rattle.std.specs.Option.{option_map}
use Rattle.std.specs.List.{AllByRecursion}
use Rattle.text_parts.specs.declared.names.TheConstants.{GREATEST_NAME}

-- a name and terms
abbrev pub Row : Type 0
Row = ℕ × List ℤ

-- The rows in ascending order of name, and how many more rows were skipped.
pub record Table : Type 0 where
  pub rows : List Row
  pub skipped : ℕ

-- the terms of a name; none where it has no row
abbrev pub row_of : Table → ℕ → Option (List ℤ)
row_of table name = option_map (λ r. r.1) (find (λ r. r.0 == name) table.rows)

-- at least eight terms, and a name from 1 to 999,999
pub record IsRow (row : Row) : Type 0 where
  pub terms : 8 ≤ length row.1
  pub positive : 0 < row.0
  pub six_digits : row.0 ≤ GREATEST_NAME

-- each name is less than those of the rows behind it
abbrev pub HasAscendingNames : List Row → Type 0
HasAscendingNames [] = Unit {0}
HasAscendingNames (r ∷ rs) = AllByRecursion (λ s. r.0 < s.0) rs × HasAscendingNames rs

-- what holds of every table
pub record IsTable (table : Table) : Type 0 where
  pub ascending : HasAscendingNames table.rows
  pub rows : All IsRow table.rows

-- each row has at most 32,768 terms
abbrev pub IsBounded : Table → Type 0
IsBounded table = All (λ r. length r.1 ≤ 32_768) table.rows

-- ---- the table of rows in any order, whose names differ

-- no two rows have one name
abbrev pub NamesDiffer : List Row → Type 0
NamesDiffer rows = (name : ℕ) → count_by (λ r. r.0 == name) rows ≤ 1

-- a row put before the first one of a greater name
abbrev pub put : Row → List Row → List Row
put row [] = row ∷ []
put row (r ∷ rs) = if nat_lt row.0 r.0 then row ∷ r ∷ rs else r ∷ put row rs

-- the rows in ascending order of name
abbrev pub by_name : List Row → List Row
by_name [] = []
by_name (r ∷ rs) = put r (by_name rs)

-- whether a row has at least 8 usable terms
abbrev pub is_kept : Row → Bool
is_kept row = nat_le 8 (length row.1)

-- whether it has fewer
abbrev pub is_skipped : Row → Bool
is_skipped row = not (is_kept row)

-- the table of rows: those that are kept, and how many are skipped
abbrev pub table_of : List Row → Table
table_of rows = record { rows = by_name (filter is_kept rows); skipped = count_by is_skipped rows }
