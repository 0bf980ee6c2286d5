use Rattle.std.proofs.Common.{◌≡◌}
use Rattle.oeis_terms.specs.Table.{row_of}
use Rattle.program_store.specs.Store.{programs_of}
use Rattle.judge.proofs.Misses.{sound_below, at_fault, none_on_cycle}
use Rattle.judge.proofs.OneReason.{one_reason}
use Rattle.judge.proofs.opening.check_store.Goals as goal

pub returns-in_err-through-clause-one : goal.returns-in_err-through-clause-one
returns-in_err-through-clause-one g c = one_reason (g.V.View.store c.args.view.now) (row_of c.args.terms.now) c.args.limit

pub returns-in-Some-clause-one : goal.returns-in-Some-clause-one
returns-in-Some-clause-one g c = one_reason (g.V.View.store c.args.view.now) (row_of c.args.terms.now) c.args.limit

pub returns-in_err-places-clause-one : goal.returns-in_err-places-clause-one
returns-in_err-places-clause-one g c = one_reason (g.V.View.store c.args.view.now) (row_of c.args.terms.now) c.args.limit

pub returns-in_err-unsound-clause-one : goal.returns-in_err-unsound-clause-one
returns-in_err-unsound-clause-one g c = one_reason (g.V.View.store c.args.view.now) (row_of c.args.terms.now) c.args.limit

pub returns-in-Some-2-clause-one : goal.returns-in-Some-2-clause-one
returns-in-Some-2-clause-one g c = one_reason (g.V.View.store c.args.view.now) (row_of c.args.terms.now) c.args.limit

pub returns-clause-one : goal.returns-clause-one
returns-clause-one g c = one_reason (g.V.View.store c.args.view.now) (row_of c.args.terms.now) c.args.limit

pub returns-in-Some-2-clause-unsound : goal.returns-in-Some-2-clause-unsound
returns-in-Some-2-clause-unsound g c = λ u e.
    let s = g.V.View.store c.args.view.now in
    let same : c.in-Some-2.unsound ≡ u = cc in
    at_fault s (row_of c.args.terms.now) c.args.limit c.in-Some-next_name.name c.in_ok-unsound.field-0 c.in-Some-2.unsound u c.in_ok-unsound.ensures c.in-Some-2.is same
    (none_on_cycle (programs_of s) c.in_ok-through.field-0 c.in_default.is c.in_ok-through.ensures.none)
    (sound_below s (row_of c.args.terms.now) c.args.limit c.loop-name.last c.in-Some-next_name.name c.in-Some-next_name.ensures.kept c.in-Some-next_name.ensures.least c.loop-name.invariant.1)
