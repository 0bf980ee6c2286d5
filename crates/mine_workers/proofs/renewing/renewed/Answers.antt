use Rattle.std.proofs.Common.{ℕ, ◌<◌, ◌≡◌, sym, ap, subst, arith, List}
use Rattle.std.specs.Prelude.{reverse}
use Rattle.oeis_terms.specs.Table.{row_of}
use Rattle.judge.specs.Sound.{Sound}
use Rattle.evidence.specs.declared.change.Change.{Change}
use Rattle.evidence.specs.Dossiers.{Dossier}
use Rattle.carry_over.specs.declared.carrying.Carried.{Carried}
use Rattle.carry_over.specs.Carrying.{IsMoved, IsCarried}
use Rattle.publish_desk.specs.History.{changes_after}
use Rattle.mine_workers.specs.JobSources.{JobSource, HasJob}
use Rattle.mine_workers.specs.Publishable.{IsPublishable, IfMoved}
use Rattle.mine_workers.proofs.Fits.{has_job}
use Rattle.mine_workers.proofs.Publishable.{gathered_publishable}
use Rattle.mine_workers.proofs.renewing.renewed.Goals as goal

pub returns-in-Moved-clause-job : goal.returns-in-Moved-clause-job
returns-in-Moved-clause-job g c =
    let cs : List Change = changes_after c.args.late.snapshot.version (reverse c.carried.new.seat.known.seen) in
    let h : IsMoved c.args.late c.in_ok-snapshot.snapshot cs c.in-Moved.moved
    = subst (λ (r : Carried). IsCarried c.args.late c.in_ok-snapshot.snapshot cs r) c.in-Moved.is c.in_ok-snapshot.ensures.came in
    ap (λ (x : Dossier). x.job) h.same

pub returns-in-Moved-clause-publishable : goal.returns-in-Moved-clause-publishable
returns-in-Moved-clause-publishable g c =
    let P = IsPublishable c.args.store.now.fixed c.carried.new.seat.known.seen in
    subst (λ (r : Carried). IfMoved P r) c.in-Moved.is c.in_ok-snapshot.ensures.publishable

pub dossier-requires-clause-sound : goal.dossier-requires-clause-sound
dossier-requires-clause-sound g c =
    subst (λ (j : JobSource). Sound c.in_ok-snapshot.snapshot.store (row_of j.terms) j.limit) (sym c.requires.source.0) c.in_ok-snapshot.ensures.sound

pub dossier-requires-clause-listed : goal.dossier-requires-clause-listed
dossier-requires-clause-listed g c =
    let charter = c.args.store.now.fixed in
    let is = c.job-job.ensures in
    let below = c.requires.late.fitting.listed in
    let lt : c.job-job.result < charter.jobs = omega (arith, is, below) in
    subst (λ (j : JobSource). HasJob j.source c.job-job.result) (sym c.requires.source.0) (has_job charter.source charter.jobs c.job-job.result c.requires.source.1.listed lt)

pub returns-clause-publishable : goal.returns-clause-publishable
returns-clause-publishable g c =
    let fixed = c.args.store.now.fixed in
    let seen = c.carried.new.seat.known.seen in
    let told = c.in_ok-dossier-in-Touched.ensures in
    let d = c.in_ok-dossier-in-Touched.dossier in
    let is = c.job-job.ensures in
    let below = c.requires.late.fitting.listed in
    let lt : c.job-job.result < fixed.jobs = omega (arith, is, below) in
    gathered_publishable fixed seen c.in_ok-snapshot.snapshot c.in_ok-snapshot.ensures.shown c.in_ok-snapshot.ensures.sound c.args.source.now c.job-job.result d c.requires.source.0 lt told.job told.snapshot told.base told.finding told.proposed
