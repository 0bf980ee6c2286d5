-- What one caller adds to a journal, and journals that have every job.
use Rattle.std.specs.Prelude.{ℕ, ◌<◌, ◌≡◌, ◌⊎◌, List, [], ◌∷◌, ◌++◌, reverse, All}
use Rattle.publish_desk.specs.declared.entry.Entry.{Entry}
use Rattle.publish_desk.specs.History.{version_of, IsDoneAt}
use Rattle.publish_desk.specs.Desk.{Desk, history}

-- each job has an entry
abbrev pub HasEveryJob : Desk → Type 0
HasEveryJob d = (job : ℕ) → job < d.charter.jobs → (at : ℕ) × IsDoneAt d.journal job at

-- The entries that were added to these, each list from its newest: their jobs ascend, and the base of each is the version at its place.
abbrev pub AscendFrom : List Entry → List Entry → Type 0
AscendFrom before [] = Unit {0}
AscendFrom before (e ∷ added) = AscendFrom before added × All (λ (f : Entry). f.job < e.job) added × (e.base ≡ version_of (added ++ before))

-- The journal was carried on by one caller.
pub record GoesOn (old new : List Entry) : Type 0 where
  pub added : List Entry
  pub split : reverse new ≡ added ++ reverse old
  pub ascend : AscendFrom (reverse old) added

-- the desk with one entry more: of this job, with the version as its base
pub record AddsJob (old new : Desk) (job : ℕ) : Type 0 where
  pub charter : new.charter ≡ old.charter
  pub entry : Entry
  pub journal : new.journal ≡ old.journal ++ entry ∷ []
  pub same_job : entry.job ≡ job
  pub base : entry.base ≡ version_of (history old)

-- the job had an entry, and nothing was changed; or its entry was added
abbrev pub HasAdded : Desk → Desk → ℕ → Type 0
HasAdded old new job = (((at : ℕ) × IsDoneAt old.journal job at) × (new ≡ old)) ⊎ AddsJob old new job
