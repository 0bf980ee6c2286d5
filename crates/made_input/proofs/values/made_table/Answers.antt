use Rattle.std.proofs.Common.{◌≡◌, ap, ◌∙◌, arith, List}
use Rattle.oeis_terms.specs.Table.{Row, by_name}
use Rattle.made_input.specs.Values.{rows, made_table}
use Rattle.made_input.proofs.Rows.{are_rows, names_differ, in_order, bounded}
use Rattle.made_input.proofs.values.made_table.Goals as goal

pub of-requires-2-clause-rows : goal.of-requires-2-clause-rows
of-requires-2-clause-rows c = rw c.loop-place.invariant (are_rows c.loop-place.place (omega (arith, c.requires, c.loop-place.auto.place-end)))

pub of-requires-2-clause-names : goal.of-requires-2-clause-names
of-requires-2-clause-names c = rw c.loop-place.invariant (names_differ c.loop-place.place)

pub returns-clause-table : goal.returns-clause-table
returns-clause-table c =
    let last : c.loop-place.place ≡ c.args.n = omega (arith, c.loop-place-test.false, c.loop-place.auto.place-end) in
    c.of-2.ensures ∙ ap (λ (rs : List Row). record { rows = rs; skipped = 0 }) (ap by_name c.loop-place.invariant ∙ in_order c.loop-place.place ∙ ap rows last)

pub returns-clause-bounded : goal.returns-clause-bounded
returns-clause-bounded c =
    let last : c.loop-place.place ≡ c.args.n = omega (arith, c.loop-place-test.false, c.loop-place.auto.place-end) in
    let is : c.of-2.result ≡ made_table c.args.n =
    c.of-2.ensures ∙ ap (λ (rs : List Row). record { rows = rs; skipped = 0 }) (ap by_name c.loop-place.invariant ∙ in_order c.loop-place.place ∙ ap rows last) in
    rw is (bounded c.args.n)
