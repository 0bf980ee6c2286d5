use Rattle.std.proofs.Common.{◌≡◌, arith}
use Rattle.program_store.specs.Store.{checked_at}
use Rattle.judge.specs.Changes.{runs_at}
use Rattle.judge.proofs.Stages.{name_passed, name_done}
use Rattle.judge.proofs.demanding.after_name.Goals as goal

pub returns-then-not-branch : goal.returns-then-not-branch
returns-then-not-branch g c =
    let s = g.V.View.store c.args.view.now in
    let q = c.args.proposal.now.name in
    name_passed s q (runs_at s c.args.limit q c.args.proposal.now.program) c.args.name c.args.changes
    (λ may. let t = c.in_ok-may_rely.ensures.1 may in let f = c.if-not-branch.true in absurd cc) c.requires.changes

pub returns : goal.returns
returns g c =
    let s = g.V.View.store c.args.view.now in
    let q = c.args.proposal.now.name in
    let is : c.loop-index.index ≡ checked_at s c.args.name = omega (arith, c.checked_count-count.ensures, c.loop-index-test.false, c.loop-index.auto.index-end) in
    name_done s q (runs_at s c.args.limit q c.args.proposal.now.program) c.args.name c.loop-index.index c.loop-index.changes is c.loop-index.invariant
