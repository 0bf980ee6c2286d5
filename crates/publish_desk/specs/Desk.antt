-- A desk as clauses see it, and what holds of each.
use Rattle.std.specs.Prelude.{ℕ, ◌+◌, ◌<◌, ◌≡◌, ◌≤◌, List, [], ◌∷◌, ◌++◌, reverse, length, slice_get}
use Rattle.std.specs.declared.option.Option.{Option}
use Rattle.loda_semantics.specs.declared.limits.TheConstants.{GREATEST_STEP_LIMIT}
use Rattle.program_store.specs.declared.candidates.TheConstants.{MOST_JOBS}
use Rattle.program_store.specs.declared.published.Proposal.{Proposal}
use Rattle.program_store.specs.Store.{Store}
use Rattle.oeis_terms.specs.Table.{Table, row_of, IsBounded, IsTable}
use Rattle.judge.specs.Passed.{Terms}
use Rattle.judge.specs.Sound.{Sound}
use Rattle.proposer.specs.Proposed.{IsProposed}
use Rattle.evidence.specs.Dossiers.{Dossier}
use Rattle.evidence.specs.Findings.{IsTrueFinding}
use Rattle.publish_desk.specs.declared.entry.Entry.{Entry}
use Rattle.publish_desk.specs.declared.charter.Charter.{Charter}
use Rattle.publish_desk.specs.declared.charter.Source.{Source}
use Rattle.publish_desk.specs.declared.charter.Source.TheVariants.{Listed, Seeded}
use Rattle.publish_desk.specs.History.{OriginRule, replay, version_of, store_at, store_after, rise, proposal_of, IsLegal, NoLoss, IsMissing, IsDoneAt, MakesVersion}
use Rattle.publish_desk.specs.declared.verdict.Verdict.{Verdict}
use Rattle.publish_desk.specs.declared.verdict.Verdict.TheVariants.{Decided, Again, AlreadyDone}

-- a source may have so many jobs: of a list, one for each of its members; of a seed, any number
abbrev pub HasJobs : Source → ℕ → Type 0
HasJobs (Listed candidates) jobs = jobs ≡ length candidates
HasJobs (Seeded seed) jobs = Unit {0}

-- the usable terms by name
abbrev pub terms_of : Charter → Terms
terms_of c = row_of c.terms

-- Which proposal a source has for a job in a store, for these terms and this limit: of a list, its member at that place, whatever
-- the store; of a seed, the first of the job's shortlist that is accepted there, else the first, else none.
abbrev pub IsFrom : Table → ℕ → Source → ℕ → Store → Option Proposal → Type 0
IsFrom table limit (Listed candidates) job s o = o ≡ slice_get candidates job
IsFrom table limit (Seeded seed) job s o = IsProposed table limit seed job s o

-- what the charter proposes for each job
abbrev pub origin_of : Charter → OriginRule
origin_of c = IsFrom c.terms c.limit c.source

-- what never changes, the entries in the order in which they came, how many were accepted, and the present store
pub record Desk : Type 0 where
  pub charter : Charter
  pub journal : List Entry
  pub version : ℕ
  pub store : Store

-- the entries, the newest first
abbrev pub history : Desk → List Entry
history d = reverse d.journal

-- the store that it had at a version
abbrev pub store_then : Desk → ℕ → Store
store_then d v = store_at d.charter.opening (history d) v

-- The journal replays from the opening store to the present one and is legal, the present store is sound, and no
-- accepted entry took anything from anybody.
pub record IsKept (d : Desk) : Type 0 where
  pub store : d.store ≡ replay d.charter.opening (history d)
  pub version : d.version ≡ version_of (history d)
  pub legal : IsLegal d.charter.opening (terms_of d.charter) d.charter.limit (origin_of d.charter) d.charter.jobs (history d)
  pub sound : Sound d.store (terms_of d.charter) d.charter.limit
  pub no_loss : NoLoss d.charter.opening d.charter.limit (history d)

-- the bounds of a desk
pub record IsChartered (c : Charter) : Type 0 where
  pub positive : 1 ≤ c.limit
  pub limit : c.limit ≤ GREATEST_STEP_LIMIT
  pub jobs : c.jobs ≤ MOST_JOBS
  pub listed : HasJobs c.source c.jobs
  pub bounded : IsBounded c.terms
  pub table : IsTable c.terms

-- ---- publishing

-- What a dossier has to be for a desk: its job is one of the desk's, its store is the one that the desk had at the version that it saw,
-- which is no less than its base, its finding is true there, and its proposal is the origin's for the store at its base.
pub record IsFitting (desk : Desk) (d : Dossier) : Type 0 where
  pub listed : d.job < desk.charter.jobs
  pub base : d.base ≤ d.snapshot.version
  pub seen : d.snapshot.version ≤ desk.version
  pub store : d.snapshot.store ≡ store_then desk d.snapshot.version
  pub finding : IsTrueFinding d.snapshot.store (terms_of desk.charter) desk.charter.limit d.finding
  pub proposed : origin_of desk.charter d.job (store_then desk d.base) (proposal_of d.finding)

-- the desk with the dossier's entry
abbrev pub decided : Desk → Dossier → Desk
decided desk d = record {
  charter = desk.charter;
  journal = desk.journal ++ record { job = d.job; base = d.base; finding = d.finding } ∷ [];
  version = desk.version + rise d.finding;
  store = store_after d.finding desk.store;
}

-- the dossier was decided: its entry is the last, at this place
pub record IsDecidedAt (old new : Desk) (d : Dossier) (at : ℕ) : Type 0 where
  pub missing : IsMissing old.journal d.job
  pub seen : d.snapshot.version ≡ old.version
  pub place : at ≡ length old.journal
  pub next : new ≡ decided old d

-- the store is newer than the one that the dossier saw: nothing changed, and this is the first entry that made it newer
pub record IsAgain (old new : Desk) (d : Dossier) (version first name : ℕ) (back : Dossier) : Type 0 where
  pub missing : IsMissing old.journal d.job
  pub newer : d.snapshot.version < old.version
  pub present : version ≡ old.version
  pub made : MakesVersion old.journal d.snapshot.version first name
  pub same : back ≡ d
  pub unchanged : new ≡ old

-- the job has an entry already, at this place: nothing changed
pub record IsAlreadyDone (old new : Desk) (d : Dossier) (at : ℕ) (back : Dossier) : Type 0 where
  pub done : IsDoneAt old.journal d.job at
  pub same : back ≡ d
  pub unchanged : new ≡ old

-- what publishing a dossier answers
abbrev pub IsVerdict : Desk → Desk → Dossier → Verdict → Type 0
IsVerdict old new d (Decided at) = IsDecidedAt old new d at
IsVerdict old new d (Again version first name back) = IsAgain old new d version first name back
IsVerdict old new d (AlreadyDone at back) = IsAlreadyDone old new d at back
