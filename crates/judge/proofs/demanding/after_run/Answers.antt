use Rattle.std.proofs.Common.{◌+◌}
use Rattle.judge.specs.Changes.{runs_at, ReliesBefore, ReliesUpTo, AreChanges}
use Rattle.judge.proofs.Sides.{nodes_are, if_ok}
use Rattle.judge.proofs.Stages.{run_done}
use Rattle.judge.proofs.demanding.after_run.Goals as goal

pub returns : goal.returns
returns g c =
    let s = g.V.View.store c.args.view.now in
    let q = c.args.proposal.now.name in
    let runs = runs_at s c.args.limit q c.args.proposal.now.program in
    let frames = c.list-frames.result.now in
    let is = nodes_are s (g.V.Library.programs c.args.view.now) (λ i n. g.met.V.View.same_programs c.args.view.now n i) c.args.limit c.args.by.name c.args.by.index c.number_of.result c.in_ok-run.run'.nodes frames
    c.number_of.ensures c.list-frames.ensures c.in_ok-run.ensures.nodes in
    if_ok c.after_frames.result (AreChanges runs (ReliesUpTo s q c.args.by frames)) (AreChanges runs (ReliesBefore s q (record { name = c.args.by.name; index = c.args.by.index + 1 })))
    (λ changes h. run_done s q runs c.args.limit c.args.by frames changes c.ranges.limit.fits c.requires.sound c.requires.checked is h)
    c.after_frames.ensures
