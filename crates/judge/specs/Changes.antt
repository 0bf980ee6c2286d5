-- What a replacement changes for those who rely on a program. Only clauses of private functions use what stands here.
use Rattle.std.specs.Prelude.{ℕ, ◌+◌, ◌<◌, ◌≤◌, ◌≡◌, ◌⊎◌, Bool, true, false, ℤ, pos, ◌<ℤ◌, ◌≤ℤ◌, List, [], ◌∷◌}
use Rattle.std.specs.declared.option.Option.{Option}
use Rattle.std.specs.declared.option.Option.TheVariants.{Some, None}
use Rattle.loda_syntax.specs.Programs.{Text}
use Rattle.program_store.specs.declared.published.Proposal.{Proposal}
use Rattle.program_store.specs.Store.{Store, programs_of, checked_at, after}
use Rattle.call_graph.specs.Closure.{ReachesByCall}
use Rattle.seq_calls.specs.declared.outcomes.Outcome.{Outcome as Told}
use Rattle.seq_calls.specs.declared.outcomes.Outcome.TheVariants as told_as
use Rattle.seq_calls.specs.declared.outcomes.NodeRun.{NodeRun}
use Rattle.seq_calls.specs.Frames.{told}
use Rattle.seq_calls.specs.Demand.{Demands}
use Rattle.seq_calls.specs.Values.{outcome}
use Rattle.judge.specs.declared.comparing.BothRuns.{BothRuns}
use Rattle.judge.specs.declared.comparing.CheckedRun.{CheckedRun}
use Rattle.judge.specs.declared.comparing.Changed.{Changed}
use Rattle.judge.specs.declared.comparing.Changes.{Changes}
use Rattle.judge.specs.Passed.{Terms}
use Rattle.judge.specs.Sound.{Sound}

-- ---- one argument

-- the runs of q at x, in the store and with the program p in its place
abbrev pub runs_at : Store → ℕ → ℕ → Text → ℤ → BothRuns
runs_at s limit q p x = record { with_old = told (outcome (programs_of s) q x limit); with_new = told (outcome (after s q p) q x limit) }

-- both outcomes are values, and P holds of the values and their steps
abbrev pub BothValues : (ℤ → ℕ → ℤ → ℕ → Type 0) → Told → Told → Type 0
BothValues P (told_as.Value v n) (told_as.Value w m) = P v n w m
BothValues P a b = ⊥

-- both runs have one value
abbrev pub SameValue : BothRuns → Type 0
SameValue runs = BothValues (λ v n w m. v ≡ w) runs.with_old runs.with_new

-- the value is another one, or none
abbrev pub OtherValue : BothRuns → Type 0
OtherValue runs = SameValue runs → ⊥

-- both runs have values, and the new one takes more steps
abbrev pub NeedsMoreSteps : BothRuns → Type 0
NeedsMoreSteps runs = BothValues (λ v n w m. n < m) runs.with_old runs.with_new

-- both runs have values, with as many steps
abbrev pub SameSteps : BothRuns → Type 0
SameSteps runs = BothValues (λ v n w m. n ≡ m) runs.with_old runs.with_new

-- ---- who relies on it

-- The checked run demands x of q, or is itself the run of q at x.
abbrev pub Relies : Store → ℕ → CheckedRun → ℤ → Type 0
Relies s q r x = Demands s r.name r.index q x ⊎ ((r.name ≡ q) × (r.index < checked_at s q) × (x ≡ pos r.index))

-- The runs of this name may rely on an argument of q: it is q itself, or some call of its program reaches q.
abbrev pub MayRely : Store → ℕ → ℕ → Type 0
MayRely s q name = (name ≡ q) ⊎ ReachesByCall (programs_of s) name q

-- checked runs in order, by names and then by indices
abbrev pub Before : CheckedRun → CheckedRun → Type 0
Before a b = (a.name < b.name) ⊎ ((a.name ≡ b.name) × (a.index < b.index))

-- the first comes before the second, or is the same
abbrev pub AtOrBefore : CheckedRun → CheckedRun → Type 0
AtOrBefore a b = (a.name < b.name) ⊎ ((a.name ≡ b.name) × (a.index ≤ b.index))

-- a checked run before this one relies on x
abbrev pub ReliesBefore : Store → ℕ → CheckedRun → CheckedRun → ℤ → Type 0
ReliesBefore s q by r x = Relies s q r x × Before r by

-- the first checked run of a name
abbrev pub first_run : ℕ → CheckedRun
first_run name = record { name = name; index = 0 }

-- the checked run behind this one
abbrev pub next_run : CheckedRun → CheckedRun
next_run by = record { name = by.name; index = by.index + 1 }

-- the run of q at x is among these
abbrev pub IsAmong : ℕ → ℤ → List NodeRun → Type 0
IsAmong q x [] = ⊥
IsAmong q x (node ∷ nodes) = ((node.pair.name ≡ q) × (node.pair.arg ≡ x)) ⊎ IsAmong q x nodes

-- a checked run before this one relies on x, or these frames of this one do
abbrev pub ReliesUpTo : Store → ℕ → CheckedRun → List NodeRun → CheckedRun → ℤ → Type 0
ReliesUpTo s q by nodes r x = ReliesBefore s q by r x ⊎ ((r ≡ by) × IsAmong q x nodes)

-- ---- the least argument that changes

-- The least x with a change among those that are relied on, with the first run that relies on it.
pub record IsLeastChange (Kind : BothRuns → Type 0) (runs : ℤ → BothRuns) (Relied : CheckedRun → ℤ → Type 0) (c : Changed) : Type 0 where
  pub relied : Relied c.by c.at
  pub runs_are : c.runs ≡ runs c.at
  pub changes : Kind (runs c.at)
  pub least : (r : CheckedRun) (x : ℤ) → Relied r x → Kind (runs x) → (c.at <ℤ x) ⊎ ((c.at ≡ x) × AtOrBefore c.by r)

-- nothing changes so, or this is the least change
abbrev pub IsLeastChangeOrNone : (BothRuns → Type 0) → (ℤ → BothRuns) → (CheckedRun → ℤ → Type 0) → Option Changed → Type 0
IsLeastChangeOrNone Kind runs Relied None = (r : CheckedRun) (x : ℤ) → Relied r x → Kind (runs x) → ⊥
IsLeastChangeOrNone Kind runs Relied (Some c) = IsLeastChange Kind runs Relied c

-- the least change of each kind
pub record AreChanges (runs : ℤ → BothRuns) (Relied : CheckedRun → ℤ → Type 0) (c : Changes) : Type 0 where
  pub other_value : IsLeastChangeOrNone OtherValue runs Relied c.other_value
  pub more_steps : IsLeastChangeOrNone NeedsMoreSteps runs Relied c.more_steps

-- the least changes that a proposal makes for all checked runs
abbrev pub AreAllChanges : Store → ℕ → Proposal → Changes → Type 0
AreAllChanges s limit proposal c = AreChanges (runs_at s limit proposal.name proposal.program) (Relies s proposal.name) c

-- those for the checked runs before one of them
abbrev pub AreChangesBefore : Store → ℕ → Proposal → CheckedRun → Changes → Type 0
AreChangesBefore s limit proposal by c = AreChanges (runs_at s limit proposal.name proposal.program) (ReliesBefore s proposal.name by) c

-- and for so many frames of that one
abbrev pub AreChangesUpTo : Store → ℕ → Proposal → CheckedRun → List NodeRun → Changes → Type 0
AreChangesUpTo s limit proposal by nodes c = AreChanges (runs_at s limit proposal.name proposal.program) (ReliesUpTo s proposal.name by nodes) c

-- What is kept of a known one and one that was met: the lesser, and the known one where they are at one argument.
abbrev pub IsLesser : Bool → Option Changed → Changed → Option Changed → Type 0
IsLesser false known met next = next ≡ known
IsLesser true None met next = next ≡ Some met
IsLesser true (Some c) met next = ((c.at ≤ℤ met.at) × (next ≡ Some c)) ⊎ ((met.at <ℤ c.at) × (next ≡ Some met))

-- the same, by whether what was met is a change
abbrev pub IsNext : Type 0 → Option Changed → Changed → Option Changed → Type 0
IsNext IsChange known met next = (IsChange × IsLesser true known met next) ⊎ ((IsChange → ⊥) × IsLesser false known met next)

-- some terms for which the store is sound
abbrev pub IsSoundStore : Store → ℕ → Type 0
IsSoundStore s limit = (terms : Terms) × Sound s terms limit
