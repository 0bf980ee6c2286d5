use Rattle.std.proofs.Common.{arith}
use Rattle.std.specs.Prelude.{IsTrue}
use Rattle.judge.proofs.Sides.{steps_more, steps_differ}
use Rattle.judge.proofs.replacing.takes_same_steps.Goals as goal

pub returns-then-not-has_same_steps : goal.returns-then-not-has_same_steps
returns-then-not-has_same_steps g c = (
  λ t. absurd cc,
  λ h.
      absurd (steps_differ (g.V.View.store c.args.view.now) c.args.limit c.args.proposal.now.name c.args.proposal.now.program c.loop-index.index c.number_of.result c.in_ok-runs.runs c.number_of.ensures c.in_ok-runs.ensures
      c.args.count (omega (arith, c.loop-index-test.true)) (λ same. let t : IsTrue c.has_same_steps.result = c.has_same_steps.ensures.1 same in cc) h),
)

pub loop-index-preserved : goal.loop-index-preserved
loop-index-preserved g c =
    steps_more (g.V.View.store c.args.view.now) c.args.limit c.args.proposal.now.name c.args.proposal.now.program c.loop-index.index c.number_of.result c.in_ok-runs.runs c.number_of.ensures c.in_ok-runs.ensures
    (c.has_same_steps.ensures.0 c.if-not-has_same_steps.false) c.loop-index.invariant
