use Rattle.std.proofs.Common.{sym, subst}
use Rattle.oeis_terms.specs.Table.{row_of}
use Rattle.judge.specs.Sound.{Sound}
use Rattle.mine_workers.specs.JobSources.{JobSource, HasJob}
use Rattle.mine_workers.proofs.Fits.{has_job}
use Rattle.mine_workers.proofs.Publishable.{gathered_publishable}
use Rattle.mine_workers.proofs.renewing.found.Goals as goal

pub dossier-requires-clause-sound : goal.dossier-requires-clause-sound
dossier-requires-clause-sound g c =
    subst (λ (j : JobSource). Sound c.in_ok-snapshot.snapshot.store (row_of j.terms) j.limit) (sym c.requires.source.0) c.in_ok-snapshot.ensures.sound

pub dossier-requires-clause-listed : goal.dossier-requires-clause-listed
dossier-requires-clause-listed g c =
    let charter = c.args.store.now.fixed in
    subst (λ (j : JobSource). HasJob j.source c.args.job) (sym c.requires.source.0) (has_job charter.source charter.jobs c.args.job c.requires.source.1.listed c.requires.job)

pub returns-clause-publishable : goal.returns-clause-publishable
returns-clause-publishable g c =
    let told = c.in_ok-dossier.ensures in
    gathered_publishable c.args.store.now.fixed _ c.in_ok-snapshot.snapshot c.in_ok-snapshot.ensures.shown c.in_ok-snapshot.ensures.sound c.args.source.now c.args.job c.in_ok-dossier.dossier c.requires.source.0 c.requires.job
    told.job told.snapshot told.base told.finding told.proposed
