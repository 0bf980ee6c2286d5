use Rattle.std.proofs.Common.{arith}
use Rattle.judge.specs.Changes.{runs_at}
use Rattle.judge.proofs.Stages.{names_none, names_next, names_all}
use Rattle.judge.proofs.demanding.changes_of.Goals as goal

pub loop-name-init : goal.loop-name-init
loop-name-init g c =
    let s = g.V.View.store c.args.view.now in
    let q = c.args.proposal.now.name in
    (omega arith, names_none s q (runs_at s c.args.limit q c.args.proposal.now.program) c.requires.store)

pub after_name-requires-clause-changes : goal.after_name-requires-clause-changes
after_name-requires-clause-changes g c =
    let s = g.V.View.store c.args.view.now in
    let q = c.args.proposal.now.name in
    names_next s q (runs_at s c.args.limit q c.args.proposal.now.program) c.loop-name.last c.in-Some.name c.loop-name.changes c.in-Some.ensures.some.0 c.in-Some.ensures.least c.loop-name.invariant.1

pub returns : goal.returns
returns g c =
    let s = g.V.View.store c.args.view.now in
    let q = c.args.proposal.now.name in
    names_all s q (runs_at s c.args.limit q c.args.proposal.now.program) c.loop-name.last c.loop-name.changes
    c.in_default.ensures.none c.loop-name.invariant.1
