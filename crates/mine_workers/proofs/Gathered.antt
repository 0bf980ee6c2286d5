-- What is gathered for the store that a seat sees fits the journal that it has seen.
use Rattle.std.proofs.Common.{ℕ, ◌<◌, ◌≤◌, ◌≡◌, sym, ap, subst, ◌∙◌, arith, List}
use Rattle.std.specs.Prelude.{reverse}
use Rattle.program_store.specs.Store.{Store}
use Rattle.oeis_terms.specs.Table.{row_of}
use Rattle.evidence.specs.Dossiers.{Dossier, Snapshot}
use Rattle.evidence.specs.Findings.{IsTrueFinding}
use Rattle.publish_desk.specs.declared.charter.Charter.{Charter}
use Rattle.publish_desk.specs.declared.entry.Entry.{Entry}
use Rattle.publish_desk.specs.History.{replay, version_of, store_at, proposal_of}
use Rattle.publish_desk.specs.Desk.{terms_of, origin_of, IsFitting}
use Rattle.publish_desk.proofs.Publish.{store_now}
use Rattle.mine_workers.specs.JobSources.{JobSource, job_source_of}
use Rattle.mine_workers.specs.Shared.{desk_of, snapshot_of}

pub fits_gathered : (c : Charter) (seen : List Entry) (source : JobSource) (s : Snapshot) (job : ℕ) (d : Dossier)
    → source ≡ job_source_of c → s ≡ snapshot_of (desk_of c seen) → job < c.jobs → d.job ≡ job → d.snapshot ≡ s → d.base ≡ s.version
    → IsTrueFinding s.store (row_of source.terms) source.limit d.finding
    → origin_of (record c { terms = source.terms; limit = source.limit; source = source.source }) job s.store (proposal_of d.finding)
    → IsFitting (desk_of c seen) d
fits_gathered c seen source s job d is shows below same snapshot base found proposed =
    let now : Store = replay c.opening (reverse seen) in
    let store : d.snapshot.store ≡ now = ap (λ (x : Snapshot). x.store) (snapshot ∙ shows) in
    let version : d.snapshot.version ≡ version_of (reverse seen) = ap (λ (x : Snapshot). x.version) (snapshot ∙ shows) in
    let based : d.base ≡ version_of (reverse seen) = base ∙ ap (λ (x : Snapshot). x.version) shows in
    let then : (v : ℕ) → v ≡ version_of (reverse seen) → store_at c.opening (reverse seen) v ≡ now = λ v e. ap (store_at c.opening (reverse seen)) e ∙ store_now c.opening (reverse seen) in
    let found' : IsTrueFinding s.store (terms_of c) c.limit d.finding = subst (λ (x : JobSource). IsTrueFinding s.store (row_of x.terms) x.limit d.finding) is found in
    let proposed' : origin_of c job s.store (proposal_of d.finding) = subst (λ (x : JobSource). origin_of (record c { terms = x.terms; limit = x.limit; source = x.source }) job s.store (proposal_of d.finding)) is proposed in
    let proposed'' : origin_of c d.job s.store (proposal_of d.finding) = subst (λ (j : ℕ). origin_of c j s.store (proposal_of d.finding)) (sym same) proposed' in
    let at_s : s.store ≡ now = ap (λ (x : Snapshot). x.store) shows in
    record {
      listed = omega (arith, same, below);
      base = omega (arith, version, based);
      seen = omega (arith, version);
      store = store ∙ sym (then d.snapshot.version version);
      finding = subst (λ (x : Store). IsTrueFinding x (terms_of c) c.limit d.finding) (at_s ∙ sym store) found';
      proposed = subst (λ (x : Store). origin_of c d.job x (proposal_of d.finding)) (at_s ∙ sym (then d.base based)) proposed'';
    }
