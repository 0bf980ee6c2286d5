use Rattle.mine_workers.proofs.Found.{begins_after}
use Rattle.mine_workers.proofs.run.run_jobs.Goals as goal

pub returns-clause-begins : goal.returns-clause-begins
returns-clause-begins g c = begins_after c.args.desk.journal c.in_ok-begun.begun.journal c.finish-2.result c.in_ok-begun.ensures.begins c.finish-2.ensures.begins
