-- What carrying a dossier asks and answers.
use Rattle.std.specs.Prelude.{ℕ, ◌≡◌, List}
use Rattle.program_store.specs.Store.{Store}
use Rattle.judge.specs.Passed.{Terms}
use Rattle.evidence.specs.declared.change.Change.{Change}
use Rattle.evidence.specs.declared.finding.Finding.{Finding}
use Rattle.evidence.specs.declared.finding.Finding.TheVariants.{Nothing, Judged}
use Rattle.evidence.specs.Dossiers.{Dossier, Snapshot, moved_to}
use Rattle.evidence.specs.Findings.{IsTrueFinding}
use Rattle.carry_over.specs.declared.carrying.Carried.{Carried}
use Rattle.carry_over.specs.declared.carrying.Carried.TheVariants.{Moved, Touched}
use Rattle.carry_over.specs.Stores.{IsSuccessor, IsInReach, NoneHas}
use Rattle.carry_over.specs.Changed.{changed_names, IsFirstTouched}

-- the reach of a finding between two stores: that of its proposal, and nothing without one
abbrev pub IsInReachOf : Store → Store → Finding → ℕ → Type 0
IsInReachOf older newer Nothing r = ⊥
IsInReachOf older newer (Judged proposal answer) r = IsInReach older newer proposal.name proposal.program r

-- The terms and the limit are fitting: with them the changes are accepted entries that lead from the one sound store to the other,
-- which is sound too, and the finding is true in the older store.
pub record AreFitting (terms : Terms) (limit : ℕ) (older newer : Store) (changes : List Change) (f : Finding) : Type 0 where
  pub successor : IsSuccessor terms limit older (changed_names changes) newer
  pub finding : IsTrueFinding older terms limit f

-- there are some
abbrev pub HaveFitting : Store → Store → List Change → Finding → Type 0
HaveFitting older newer changes f = (terms : Terms) × (limit : ℕ) × AreFitting terms limit older newer changes f

-- No change touches the reach: the dossier has the newer snapshot and else what it had, and its finding is true there, for all terms
-- and limits that are fitting.
pub record IsMoved (d : Dossier) (newer : Snapshot) (changes : List Change) (moved : Dossier) : Type 0 where
  pub untouched : NoneHas (IsInReachOf d.snapshot.store newer.store d.finding) (changed_names changes)
  pub same : moved ≡ moved_to d newer
  pub finding : (terms : Terms) (limit : ℕ) → AreFitting terms limit d.snapshot.store newer.store changes d.finding → IsTrueFinding newer.store terms limit moved.finding

-- the first change that touches the reach, and the dossier as it was
pub record IsTouched (d : Dossier) (newer : Snapshot) (changes : List Change) (at name : ℕ) (back : Dossier) : Type 0 where
  pub first : IsFirstTouched (IsInReachOf d.snapshot.store newer.store d.finding) changes (record { at = at; name = name })
  pub same : back ≡ d

-- what carrying came to
abbrev pub IsCarried : Dossier → Snapshot → List Change → Carried → Type 0
IsCarried d newer changes (Moved moved) = IsMoved d newer changes moved
IsCarried d newer changes (Touched at name back) = IsTouched d newer changes at name back
