use Rattle.std.proofs.Common.{◌∙◌, sym, ap}
use Rattle.publish_desk.specs.declared.charter.Charter.{Charter}
use Rattle.mine_workers.specs.JobSources.{job_source_of}
use Rattle.mine_workers.proofs.Adding.{begun_none, begun_more}
use Rattle.mine_workers.proofs.alone.finish.Goals as goal

pub loop-job-init : goal.loop-job-init
loop-job-init g c = (begun_none c.args.desk, c.jobs-job-end.ensures.value)

pub decide_missing-requires-clause-source : goal.decide_missing-requires-clause-source
decide_missing-requires-clause-source g c = λ κs h. c.requires.source ∙ ap job_source_of (sym c.loop-job.invariant.0.charter)

pub loop-job-preserved : goal.loop-job-preserved
loop-job-preserved g c =
    let old = c.args.desk in
    let d = c.loop-job.desk in
    let new = c.decide_missing.new.desk in
    let inv = c.loop-job.invariant in
    let next = begun_more old d new c.loop-job.job inv.0 c.in_ok-decide_missing.ensures in
    (next, inv.1 ∙ ap (λ (k : Charter). k.jobs) (inv.0.charter ∙ sym next.charter))
