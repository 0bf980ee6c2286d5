-- What the bytes of a stripped file of the OEIS stand for.
use Rattle.std.specs.Prelude.{ℕ, ◌+◌, ◌==◌, if◌then◌else◌, List, [], ◌∷◌, ◌++◌, length, Option, Some, None, Result, Ok, Err}
use Rattle.std.specs.List.{list_any, filter_map}
use Rattle.oeis_terms.specs.declared.error.TermsKind.{TermsKind}
use Rattle.oeis_terms.specs.declared.error.TermsKind.TheVariants.{Repeated}
use Rattle.oeis_terms.specs.Cut.{lines}
use Rattle.oeis_terms.specs.Line.{said}
use Rattle.oeis_terms.specs.Table.{Row, Table, table_of}

-- the row of a line that has one
abbrev pub row_in : Result (Option Row) TermsKind → Option Row
row_in (Ok row) = row
row_in (Err kind) = None

-- the rows of these lines, in their order
abbrev pub rows_in : List (List ℕ) → List Row
rows_in ls = filter_map (λ l. row_in (said l)) ls

-- a line's fault behind these rows: its own, or that one of them has its name, whether it is skipped or not
abbrev pub fault_behind : List Row → Result (Option Row) TermsKind → Option TermsKind
fault_behind rows (Err kind) = Some kind
fault_behind rows (Ok None) = None
fault_behind rows (Ok (Some row)) = if list_any (λ r. r.0 == row.0) rows then Some (Repeated row.0) else None

-- a fault, and the number of its line
pub record TermsFault : Type 0 where
  pub line : ℕ
  pub kind : TermsKind

-- a line's own fault, and else the first of the lines behind it
abbrev pub or_later : Option TermsKind → ℕ → Option TermsFault → Option TermsFault
or_later None line later = later
or_later (Some kind) line later = Some (record { line = line; kind = kind })

-- the first fault of lines that stand behind others
unfoldable pub first_line_fault : (earlier later : List (List ℕ)) → Option TermsFault
first_line_fault earlier [] = None
first_line_fault earlier (l ∷ ls) = or_later (fault_behind (rows_in earlier) (said l)) (length earlier + 1) (first_line_fault (earlier ++ l ∷ []) ls)

-- the value, unless there is a fault
abbrev pub unless_fault : {A : Type 0} → Option TermsFault → A → Result A TermsFault
unless_fault None x = Ok x
unless_fault (Some fault) x = Err fault

-- the table and the number of skipped rows, or the first bad line
unfoldable pub stripped : List ℕ → Result Table TermsFault
stripped bytes = unless_fault (first_line_fault [] (lines bytes)) (table_of (rows_in (lines bytes)))
