use Rattle.std.proofs.Common.{sym, subst, take, List}
use Rattle.seq_calls.specs.declared.outcomes.NodeRun.{NodeRun}
use Rattle.demand_table.proofs.Placing.{runs_upto}
use Rattle.demand_table.proofs.Reached.{HasReached, reached_more}
use Rattle.demand_table.proofs.reaching.with_runs.Goals as goal

pub loop-run-preserved : goal.loop-run-preserved
loop-run-preserved c =
    let runs = c.args.runs.now in
    let i = c.loop-run.run-index in
    let run = c.run-item.result in
    let e = runs_upto runs i run c.loop-run-test.true c.run-item.is in
    subst (λ (l : List NodeRun). HasReached c.args.callers.now c.in_ok-next-2.next c.add_run.new.met l) (sym e)
    (reached_more c.args.callers.now c.loop-run.next c.in_ok-next-2.next c.loop-run.met c.add_run.new.met (take i runs) run c.loop-run.invariant
    c.in_ok-next-2.ensures.grows c.in_ok-next-2.ensures.met c.in_ok-next-2.ensures.calls)
