-- How the lines of a file are read one after the other. Only clauses of private functions use what stands here.
use Rattle.std.specs.Prelude.{◌≡◌, ℕ, ◌+◌, ◌≤◌, ◌==◌, if◌then◌else◌, ℤ, Bool, true, false, List, [], ◌∷◌, ◌++◌, length, filter, count_by, slice_index_or, slice_set, Option, Some, None, Result, Ok, Err}
use Rattle.std.specs.List.{list_any}
use Rattle.oeis_terms.specs.declared.error.LineError.{LineError}
use Rattle.oeis_terms.specs.declared.error.LineError.TheVariants as errors
use Rattle.oeis_terms.specs.declared.error.TermsError.{TermsError}
use Rattle.oeis_terms.specs.declared.error.TermsError.TheVariants as faults
use Rattle.oeis_terms.specs.declared.error.TermsKind.{TermsKind}
use Rattle.oeis_terms.specs.declared.error.TermsKind.TheVariants.{Repeated}
use Rattle.oeis_terms.specs.declared.reading.Reading.{Reading}
use Rattle.oeis_terms.specs.Cut.{lines}
use Rattle.text_parts.specs.Results.{◌>>=◌}
use Rattle.oeis_terms.specs.Line.{said}
use Rattle.oeis_terms.specs.Stripped.{rows_in, first_line_fault}
use Rattle.oeis_terms.specs.Table.{Row, is_kept, is_skipped}
use Rattle.text_parts.specs.declared.names.TheConstants.{GREATEST_NAME}

-- the error is the one that was read, or want of memory
abbrev pub LineFails : {Y : Type 0} → LineError → Result Y TermsKind → Type 0
LineFails errors.Memory read = Unit {0}
LineFails (errors.Bad kind) read = read ≡ Err kind

-- what is given is what is read, unless memory ran out
abbrev pub LineGives : {X Y : Type 0} → (X → Y) → Result X LineError → Result Y TermsKind → Type 0
LineGives view (Ok x) read = read ≡ Ok (view x)
LineGives view (Err e) read = LineFails e read

-- whether a term so far is past the number range, and the terms before it, after one more term
abbrev pub kept_after : Bool → List ℤ → Option ℤ → Bool × List ℤ
kept_after is_wide terms None = (true, terms)
kept_after is_wide terms (Some z) = if is_wide then (true, terms) else (false, terms ++ z ∷ [])

-- The names so far, of skipped rows too, the rows that are kept, and how many are skipped.
pub record ReadingState : Type 0 where
  pub seen : List Bool
  pub kept : List Row
  pub skipped : ℕ

-- the state as the code keeps it
abbrev pub reading_state : Reading → ReadingState
reading_state r = record { seen = r.seen.items; kept = r.kept.items; skipped = r.skipped }

-- a state stands for these rows
pub record Reflects (rows : List Row) (state : ReadingState) : Type 0 where
  pub size : length state.seen ≡ GREATEST_NAME + 1
  pub seen : (name : ℕ) → name ≤ GREATEST_NAME → slice_index_or state.seen name false ≡ list_any (λ r. r.0 == name) rows
  pub kept : state.kept ≡ filter is_kept rows
  pub skipped : state.skipped ≡ count_by is_skipped rows

-- the state after one more row
abbrev pub with_row : ReadingState → Row → ReadingState
with_row s row = record {
  seen = slice_set s.seen row.0 true;
  kept = if is_kept row then s.kept ++ row ∷ [] else s.kept;
  skipped = if is_kept row then s.skipped else s.skipped + 1;
}

-- the same, where the line is a row: a name that was seen is a fault
abbrev pub after_row : ReadingState → Option Row → Result ReadingState TermsKind
after_row s None = Ok s
after_row s (Some row) = if slice_index_or s.seen row.0 false then Err (Repeated row.0) else Ok (with_row s row)

-- the state after one more line
abbrev pub after_line : ReadingState → List ℕ → Result ReadingState TermsKind
after_line s line = said line >>= λ row. after_row s row

-- an error of a line, with the line
abbrev pub error_at_line : ℕ → LineError → TermsError
error_at_line line (errors.Bad kind) = faults.Bad line kind
error_at_line line errors.Memory = faults.Memory

-- all lines of the bytes were read, or the first bad one; want of memory may stand in the place of either
abbrev pub ReadsLines : List ℕ → Result Reading TermsError → Type 0
ReadsLines bytes (Ok reading) = (first_line_fault [] (lines bytes) ≡ None) × Reflects (rows_in (lines bytes)) (reading_state reading)
ReadsLines bytes (Err (faults.Bad line kind)) = first_line_fault [] (lines bytes) ≡ Some (record { line = line; kind = kind })
ReadsLines bytes (Err faults.Memory) = Unit {0}
ReadsLines bytes (Err e) = ⊥
