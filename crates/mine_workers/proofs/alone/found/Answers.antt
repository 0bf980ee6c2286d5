use Rattle.std.proofs.Common.{sym, subst}
use Rattle.mine_workers.specs.JobSources.{JobSource, HasJob}
use Rattle.mine_workers.proofs.Fits.{has_job, sound_here, fits}
use Rattle.mine_workers.proofs.alone.found.Goals as goal

pub dossier-requires-clause-sound : goal.dossier-requires-clause-sound
dossier-requires-clause-sound c =
    sound_here c.args.desk.now c.args.source.now c.in_ok-snapshot.snapshot c.requires.source c.in_ok-snapshot.ensures c.version.ensures.kept

pub dossier-requires-clause-listed : goal.dossier-requires-clause-listed
dossier-requires-clause-listed c =
    let charter = c.args.desk.now.charter in
    subst (λ (j : JobSource). HasJob j.source c.args.job) (sym c.requires.source) (has_job charter.source charter.jobs c.args.job c.jobs.ensures.chartered.listed c.requires.listed)

pub returns-clause-fits : goal.returns-clause-fits
returns-clause-fits c =
    let told = c.in_ok-dossier.ensures in
    fits c.args.desk.now c.args.source.now c.in_ok-snapshot.snapshot c.requires.source c.in_ok-snapshot.ensures c.version.ensures.kept
    c.in_ok-dossier.dossier c.args.job c.requires.listed told.job told.snapshot told.base told.finding told.proposed
