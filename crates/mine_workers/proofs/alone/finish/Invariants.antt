use Rattle.std.proofs.Common.{◌≡◌}
use Rattle.mine_workers.proofs.Adding.{Begun}
use Rattle.mine_workers.proofs.alone.finish.Given as goal

abbrev pub invariant-loop-job : goal.invariant-loop-job
invariant-loop-job g l = Begun l.fn.desk l.desk l.job × (l.job-end ≡ l.desk.charter.jobs)
