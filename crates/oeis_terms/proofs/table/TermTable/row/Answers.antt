use Rattle.std.proofs.Common.{ap, sym, ◌∙◌, rules}
use Rattle.std.specs.Prelude.{List, ℤ, Some}
use Rattle.std.specs.Option.{option_map}
use Rattle.std.proofs.lemmas.List.Sorted.{answers_always}
use Rattle.oeis_terms.specs.Table.{Row}
use Rattle.oeis_terms.proofs.Ascending.{row_found, row_absent}
use Rattle.oeis_terms.proofs.table.TermTable.row.Goals as goal

pub returns-in-Ok-clause-row : goal.returns-in-Ok-clause-row
returns-in-Ok-clause-row c =
    let by_key = c.in-Ok.ensures.position (λ (row : Row). row.0) (answers_always _ _ _ (λ f a r g called. search rules)) in
    let found =
    row_found c.self.inside.rows.items c.args.name c.in-Ok.place c.index.result.now c.self.invariant.ascending (rw c.deref.ensures.value at c.in-Ok.ensures.bound) (rw c.deref.ensures.value at by_key) c.index.ensures
    in
    rw (← c.self.view_is) (ap (λ (terms : List ℤ). Some terms) c.terms.ensures ∙ sym (ap (option_map (λ (r : Row). r.1)) found))

pub returns-in-Err-clause-row : goal.returns-in-Err-clause-row
returns-in-Err-clause-row c =
    let by_key = c.in-Err.ensures.position (λ (row : Row). row.0) (answers_always _ _ _ (λ f a r g called. search rules)) in
    let absent = row_absent c.self.inside.rows.items c.args.name c.in-Err.field-0 c.self.invariant.ascending (rw c.deref.ensures.value at by_key) in
    rw (← c.self.view_is) (sym (ap (option_map (λ (r : Row). r.1)) absent))
