use Rattle.std.proofs.Common.{sym, ap, subst, arith, length}
use Rattle.std.specs.Prelude.{Option}
use Rattle.oeis_terms.specs.Table.{row_of}
use Rattle.judge.specs.declared.answer.Got.{Got}
use Rattle.judge.specs.Misses.{IsFirstMiss}
use Rattle.judge.proofs.Rows.{bounded_row}
use Rattle.judge.proofs.Misses.{length_taken, fault_none, fault_unmet}
use Rattle.judge.proofs.opening.entry_fault.Goals as goal

pub overflow_cast-usable : goal.overflow_cast-usable
overflow_cast-usable g c =
    let b = bounded_row c.args.terms.now c.requires c.args.name c.in-Some-row.row.now (sym c.in-Some-row.ensures.row) in omega (arith, b)

pub first_miss-requires : goal.first_miss-requires
first_miss-requires g c =
    let b = bounded_row c.args.terms.now c.requires c.args.name c.in-Some-row.row.now (sym c.in-Some-row.ensures.row) in
    let e = ap length c.first_terms-checked_terms.ensures in
    let n = length_taken c.in-Some-row.row.now c.in-Some.published.now.checked c.if-usable-checked.false in
    omega (arith, b, e, n)

pub returns-in-None : goal.returns-in-None
returns-in-None g c =
    let lib = g.V.Library.programs c.args.directory.now.base.now in
    let taken = c.first_terms-checked_terms.result.now in
    fault_none (g.V.View.store c.args.directory.now.base.now) (row_of c.args.terms.now) c.args.limit c.args.name
    c.in-Some.published.now (sym c.in-Some.ensures.value) c.in-Some-row.row.now (sym c.in-Some-row.ensures.row)
    lib (λ i n. g.met.V.View.same_programs c.args.directory.now.base.now n i) taken
    c.if-checked-lt8.false c.if-usable-checked.false c.first_terms-checked_terms.ensures
    c.in_ok-found.found.0
    (subst (λ (o : Option Got). IsFirstMiss lib taken c.args.name c.args.limit c.in_ok-found.found.0 o) c.in-None.is c.in_ok-found.ensures)

pub returns-in-Some-missed : goal.returns-in-Some-missed
returns-in-Some-missed g c =
    let lib = g.V.Library.programs c.args.directory.now.base.now in
    let taken = c.first_terms-checked_terms.result.now in
    fault_unmet (g.V.View.store c.args.directory.now.base.now) (row_of c.args.terms.now) c.args.limit c.args.name
    c.in-Some.published.now (sym c.in-Some.ensures.value) c.in-Some-row.row.now (sym c.in-Some-row.ensures.row)
    lib (λ i n. g.met.V.View.same_programs c.args.directory.now.base.now n i) taken
    c.if-checked-lt8.false c.if-usable-checked.false c.first_terms-checked_terms.ensures
    c.in_ok-found.found.0 c.in-Some-missed.got
    (subst (λ (o : Option Got). IsFirstMiss lib taken c.args.name c.args.limit c.in_ok-found.found.0 o) c.in-Some-missed.is c.in_ok-found.ensures)
