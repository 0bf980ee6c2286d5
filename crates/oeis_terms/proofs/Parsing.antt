-- What reading the lines of a file gives for its table.
use Rattle.std.proofs.Common.{◌≡◌, ℕ, List, sym, ap, subst, ◌∙◌}
use Rattle.std.specs.Prelude.{Option, Result, Ok, Err, count_by, All}
use Rattle.oeis_terms.specs.declared.error.TermsError.{TermsError}
use Rattle.oeis_terms.specs.declared.error.TermsError.TheVariants as faults
use Rattle.oeis_terms.specs.declared.reading.Reading.{Reading}
use Rattle.oeis_terms.specs.Cut.{lines}
use Rattle.oeis_terms.specs.Stripped.{TermsFault, rows_in, unless_fault, stripped}
use Rattle.oeis_terms.specs.Table.{Row, Table, IsRow, NamesDiffer, is_skipped, by_name, table_of}
use Rattle.oeis_terms.specs.Reading.{ReadsLines}
use Rattle.oeis_terms.specs.Answers.{Parses}
use Rattle.oeis_terms.proofs.Facts.{kept_rows, names_differ, NamesDiffer-kept}

pub rows_kept : (bytes : List ℕ) (r : Reading) → ReadsLines bytes (Ok r) → All IsRow r.kept.items
rows_kept bytes r h = subst (λ (rows : List Row). All IsRow rows) (sym h.1.kept) (kept_rows (lines bytes))

pub names_kept : (bytes : List ℕ) (r : Reading) → ReadsLines bytes (Ok r) → NamesDiffer r.kept.items
names_kept bytes r h = subst NamesDiffer (sym h.1.kept) (NamesDiffer-kept (rows_in (lines bytes)) (names_differ (lines bytes) h.0))

pub table_read : (bytes : List ℕ) (r : Reading) (table : Table) → ReadsLines bytes (Ok r) → table ≡ record { rows = by_name r.kept.items; skipped = r.skipped } → stripped bytes ≡ Ok table
unfolding stripped
table_read bytes r table h e =
    let whole : stripped bytes ≡ Ok (table_of (rows_in (lines bytes))) = ap (λ (f : Option TermsFault). unless_fault f (table_of (rows_in (lines bytes)))) h.0 in
    let made : List Row → ℕ → Result Table TermsFault = λ rows skipped. Ok (record { rows = by_name rows; skipped = skipped }) in
    whole ∙ ap (λ (rows : List Row). made rows (count_by is_skipped (rows_in (lines bytes)))) (sym h.1.kept) ∙ ap (λ (n : ℕ). made r.kept.items n) (sym h.1.skipped)
    ∙ ap (λ (t : Table). let answer : Result Table TermsFault = Ok t in answer) (sym e)

pub error_read : (bytes : List ℕ) (e : TermsError) → ReadsLines bytes (Err e) → Parses (stripped bytes) (Err e)
unfolding stripped
error_read bytes (faults.Bad line kind) h = ap (λ (f : Option TermsFault). unless_fault f (table_of (rows_in (lines bytes)))) h
error_read bytes faults.Memory h = tt
error_read bytes e h = absurd h
