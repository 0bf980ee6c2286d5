use Rattle.std.proofs.Common.{sym, subst}
use Rattle.oeis_terms.specs.Table.{row_of}
use Rattle.judge.specs.Sound.{Sound}
use Rattle.mine_workers.specs.JobSources.{JobSource, HasJob}
use Rattle.mine_workers.proofs.Fits.{has_job}
use Rattle.mine_workers.proofs.Gathered.{fits_gathered}
use Rattle.mine_workers.proofs.shared_tests.gathered.Goals as goal

pub dossier-requires-clause-sound : goal.dossier-requires-clause-sound
dossier-requires-clause-sound c = subst (λ (j : JobSource). Sound c.args.snapshot.now.store (row_of j.terms) j.limit) (sym c.requires.source.0) c.requires.sound

pub dossier-requires-clause-listed : goal.dossier-requires-clause-listed
dossier-requires-clause-listed c =
    let charter = c.args.store.now.fixed in
    subst (λ (j : JobSource). HasJob j.source c.args.job) (sym c.requires.source.0) (has_job charter.source charter.jobs c.args.job c.requires.source.1.listed c.requires.job)

pub returns : goal.returns
returns c =
    let told = c.in_ok-dossier.ensures in
    fits_gathered c.args.store.now.fixed _ c.args.source.now c.args.snapshot.now c.args.job c.in_ok-dossier.dossier c.requires.source.0 c.requires.shown c.requires.job told.job told.snapshot told.base told.finding told.proposed
