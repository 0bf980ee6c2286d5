use Rattle.std.proofs.Common.{◌<◌, sym, ◌∙◌, length, subst, arith}
use Rattle.oeis_terms.specs.Table.{Row}
use Rattle.term_index.specs.Keys.{line_key, terms_key}
use Rattle.term_index.specs.Buckets.{AllNumbers}
use Rattle.term_index.proofs.Rows.{row-at, one-more}
use Rattle.term_index.proofs.index.Index.build.Goals as goal

pub loop-place-preserved : goal.loop-place-preserved
loop-place-preserved c =
    let row : Row = (c.row_at-name.result.0, c.row_at-name.result.1.now) in
    let at = row-at c.args.terms.now.rows c.loop-place.place row c.row_at-name.ensures.row in
    let test = c.loop-place-test.true in
    let count = c.rows-place-end.ensures.rows in
    let lt : c.loop-place.place < length c.args.terms.now.rows = omega (arith, test, count) in
    one-more c.args.terms.now.rows c.loop-place.place row c.as_slice-eight.result.now c.terms_key.result c.line_key.result c.loop-place.equals c.add_row.new.buckets c.loop-place.lines c.add_row-in-loop-place.new.buckets
    lt at (c.as_slice-eight.ensures.value ∙ c.in_ok-first.ensures.items) (subst AllNumbers (sym c.as_slice-eight.ensures.value) c.in_ok-first.ensures.numbers)
    (record { key_is = c.terms_key.ensures; added = c.in_ok-add_row.ensures.added; others = c.in_ok-add_row.ensures.others })
    (record { key_is = c.line_key.ensures; added = c.in_ok-add_row-2.ensures.added; others = c.in_ok-add_row-2.ensures.others }) c.loop-place.invariant
