-- What is found in a desk's present store fits the desk.
use Rattle.std.proofs.Common.{ℕ, ◌<◌, ◌≡◌, sym, ap, subst, ◌∙◌, arith, length}
use Rattle.oeis_terms.specs.Table.{row_of}
use Rattle.judge.specs.Sound.{Sound}
use Rattle.evidence.specs.Dossiers.{Dossier, Snapshot}
use Rattle.evidence.specs.Findings.{IsTrueFinding}
use Rattle.publish_desk.specs.declared.charter.Source.{Source}
use Rattle.publish_desk.specs.declared.charter.Source.TheVariants.{Listed, Seeded}
use Rattle.publish_desk.specs.History.{proposal_of}
use Rattle.publish_desk.specs.Desk.{Desk, HasJobs, IsFrom, IsKept, IsFitting}
use Rattle.publish_desk.proofs.Fitting.{fits_now}
use Rattle.mine_workers.specs.JobSources.{JobSource, job_source_of, HasJob}
use Rattle.mine_workers.specs.Shared.{snapshot_of}

pub has_job : (source : Source) (jobs job : ℕ) → HasJobs source jobs → job < jobs → HasJob source job
has_job (Listed candidates) jobs job h lt = let e : jobs ≡ length candidates = h in omega (arith, e, lt)
has_job (Seeded seed) jobs job h lt = tt

module _ (d : Desk) (j : JobSource) (s : Snapshot) (is : j ≡ job_source_of d.charter) (now : s ≡ snapshot_of d) (kept : IsKept d) where
  pub sound_here : Sound s.store (row_of j.terms) j.limit
  sound_here =
      subst (λ (k : JobSource). Sound s.store (row_of k.terms) k.limit) (sym is)
      (subst (λ (t : Snapshot). Sound t.store (row_of d.charter.terms) d.charter.limit) (sym now) kept.sound)

  pub fits : (f : Dossier) (job : ℕ) → job < d.charter.jobs → f.job ≡ job → f.snapshot ≡ s → f.base ≡ s.version → IsTrueFinding s.store (row_of j.terms) j.limit f.finding
      → IsFrom j.terms j.limit j.source job s.store (proposal_of f.finding) → IsFitting d f
  fits f job lt same seen base told proposed =
      fits_now d f kept (omega (arith, lt, same)) (base ∙ ap (λ (t : Snapshot). t.version) now) (ap (λ (t : Snapshot). t.version) (seen ∙ now)) (ap (λ (t : Snapshot). t.store) (seen ∙ now))
      (subst (λ (t : Snapshot). IsTrueFinding t.store (row_of d.charter.terms) d.charter.limit f.finding) now
      (subst (λ (k : JobSource). IsTrueFinding s.store (row_of k.terms) k.limit f.finding) is told))
      (subst (λ (n : ℕ). IsFrom d.charter.terms d.charter.limit d.charter.source n d.store (proposal_of f.finding)) (sym same)
      (subst (λ (t : Snapshot). IsFrom d.charter.terms d.charter.limit d.charter.source job t.store (proposal_of f.finding)) now
      (subst (λ (k : JobSource). IsFrom k.terms k.limit k.source job s.store (proposal_of f.finding)) is proposed)))
