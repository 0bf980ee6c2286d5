use Rattle.judge.specs.Changes.{runs_at}
use Rattle.judge.proofs.Stages.{frames_none, frames_other, frames_more, frames_all}
use Rattle.judge.proofs.demanding.after_frames.Goals as goal

pub loop-frame-init : goal.loop-frame-init
loop-frame-init g c =
    let s = g.V.View.store c.args.view.now in
    let q = c.args.proposal.now.name in
    frames_none s q (runs_at s c.args.limit q c.args.proposal.now.program) c.args.by c.args.changes c.args.frames.now c.requires

pub loop-frame-preserved-then-frame-proposal : goal.loop-frame-preserved-then-frame-proposal
loop-frame-preserved-then-frame-proposal g c =
    let s = g.V.View.store c.args.view.now in
    let q = c.args.proposal.now.name in
    frames_other s q (runs_at s c.args.limit q c.args.proposal.now.program) c.args.by c.args.frames.now c.loop-frame.frame-index c.frame-item.result c.loop-frame-test.true c.frame-item.is
    c.loop-frame.changes c.if-frame-proposal.true c.loop-frame.invariant

pub loop-frame-preserved : goal.loop-frame-preserved
loop-frame-preserved g c =
    let s = g.V.View.store c.args.view.now in
    let q = c.args.proposal.now.name in
    frames_more s q (runs_at s c.args.limit q c.args.proposal.now.program) c.args.by c.args.frames.now c.loop-frame.frame-index c.frame-item.result c.loop-frame-test.true c.frame-item.is
    c.loop-frame.changes c.with-changes.result c.in_ok-runs.runs c.if-frame-proposal.false c.in_ok-runs.ensures
    c.with-changes.ensures.other_value c.with-changes.ensures.more_steps c.loop-frame.invariant

pub returns : goal.returns
returns g c =
    let s = g.V.View.store c.args.view.now in
    let q = c.args.proposal.now.name in
    frames_all s q (runs_at s c.args.limit q c.args.proposal.now.program) c.args.by c.loop-frame.changes c.args.frames.now c.loop-frame.frame-index c.loop-frame-test.false c.loop-frame.invariant
