-- What trying a proposed program tells.
use Rattle.std.specs.Prelude.{ℕ, ◌+◌, ◌*◌, ◌<◌, ◌≤◌, ◌≡◌, ◌⊎◌, ℤ, pos, ◌<ℤ◌, ◌≤ℤ◌, List, length, Contains, slice_get}
use Rattle.std.specs.declared.option.Option.{Option}
use Rattle.std.specs.declared.option.Option.TheVariants.{Some, None}
use Rattle.seq_calls.specs.Frames.{steps_of}
use Rattle.seq_calls.specs.Values.{outcome, Gives}
use Rattle.loda_syntax.specs.Programs.{Text}
use Rattle.loda_semantics.specs.Exec.{Library, value}
use Rattle.program_store.specs.declared.published.Proposal.{Proposal}
use Rattle.program_store.specs.Store.{Store, programs_of, after}
use Rattle.seq_calls.specs.declared.outcomes.NodeRun.{NodeRun}
use Rattle.seq_calls.specs.Demand.{InDem}
use Rattle.judge.specs.declared.answer.Answer.{Answer}
use Rattle.judge.specs.Passed.{Terms, got_of, PassesBelow}
use Rattle.judge.specs.Judged.{LeastWith, Breaks, Enters, Passes, IsJudged}
use Rattle.judge.specs.declared.answer.Got.{Got}
use Rattle.judge.specs.Misses.{IsFirstMiss}
use Rattle.judge.specs.Sound.{Sound}
use Rattle.demand_table.specs.Nodes.{IsAscending}
use Rattle.evidence.specs.declared.comparing.Dearer.{Dearer}
use Rattle.evidence.specs.declared.comparing.Compared.{Compared}
use Rattle.evidence.specs.declared.comparing.Compared.TheVariants.{Broken, Kept}
use Rattle.evidence.specs.declared.weighing.Weighed.{Weighed}
use Rattle.evidence.specs.Runs.{AreRunsAt, IsFirst, IsOf}
use Rattle.evidence.specs.Findings.{accepted_count, AreRunsFor}

-- ---- arguments at which the proposed program is dearer

-- the old program takes so many steps at x, and the proposed one more
abbrev pub IsDearerAt : Store → ℕ → ℕ → Text → ℤ → Type 0
IsDearerAt s limit q p x = steps_of (outcome (programs_of s) q x limit) < steps_of (outcome (after s q p) q x limit)

-- d tells of an argument, which has the property At and is the least that is dearer
pub record IsLeastDearer (s : Store) (limit q : ℕ) (p : Text) (At : ℤ → Type 0) (d : Dearer) : Type 0 where
  pub at : At d.at
  pub was : d.was ≡ steps_of (outcome (programs_of s) q d.at limit)
  pub now : d.now ≡ steps_of (outcome (after s q p) q d.at limit)
  pub dearer : d.was < d.now
  pub least : (y : ℤ) → y <ℤ d.at → At y → IsDearerAt s limit q p y → ⊥

-- none of these arguments is dearer, or this is the least that is
abbrev pub IsLeastOrNone : Store → ℕ → ℕ → Text → (ℤ → Type 0) → Option Dearer → Type 0
IsLeastOrNone s limit q p At None = (y : ℤ) → At y → IsDearerAt s limit q p y → ⊥
IsLeastOrNone s limit q p At (Some d) = IsLeastDearer s limit q p At d

-- the known one, or else the one that was met, if it is dearer
abbrev pub IsKnownOr : Option Dearer → Dearer → Option Dearer → Type 0
IsKnownOr None met r = ((met.was < met.now) × (r ≡ Some met)) ⊎ ((met.now ≤ met.was) × (r ≡ None))
IsKnownOr (Some d) met r = r ≡ Some d

-- the one with the lesser argument
abbrev pub IsLesserOf : Option Dearer → Option Dearer → Option Dearer → Type 0
IsLesserOf None b r = r ≡ b
IsLesserOf (Some a) None r = r ≡ Some a
IsLesserOf (Some a) (Some b) r = ((a.at ≤ℤ b.at) × (r ≡ Some a)) ⊎ ((b.at <ℤ a.at) × (r ≡ Some b))

-- each of the first arguments takes as many steps as before
abbrev pub SameStepsBelow : Store → ℕ → ℕ → Text → ℕ → Type 0
SameStepsBelow s limit q p count =
    (i : ℕ) → i < count → steps_of (outcome (programs_of s) q (pos i) limit) ≡ steps_of (outcome (after s q p) q (pos i) limit)

-- ---- demanded arguments

-- at each of them the proposed program has the old value
abbrev pub KeepsAt : Store → ℕ → ℕ → Text → (ℤ → Type 0) → Type 0
KeepsAt s limit q p At = (x : ℤ) → At x → (v : ℤ) × (n m : ℕ) × (outcome (programs_of s) q x limit ≡ value v n) × (outcome (after s q p) q x limit ≡ value v m)

-- The least demanded argument with another value; or all values are kept, with the finished runs, which are added to those given.
abbrev pub IsCompared : Store → ℕ → ℕ → Text → ℕ → Compared → Type 0
IsCompared s limit q p k (Broken at was now) =
    LeastWith (Breaks s limit q p) at × Gives (outcome (programs_of s) q at limit) was × (now ≡ got_of (outcome (after s q p) q at limit))
IsCompared s limit q p k (Kept runs dearer) =
    KeepsAt s limit q p (InDem s q) × AreRunsAt (after s q p) q limit (λ x. IsFirst k x ⊎ InDem s q x) runs.items
    × IsLeastOrNone s limit q p (InDem s q) dearer

-- ---- steps

-- One run for each of some leading terms that are given, and one more.
pub record AreSpentOnTerms (lib : Library) (row : List ℤ) (q limit before now : ℕ) : Type 0 where
  pub given : ℕ
  pub within : given ≤ length row
  pub gives : PassesBelow lib row q limit given
  pub bound : now ≤ before + (given + 1) * limit

-- One run for each of some demanded arguments.
pub record AreSpentOnDemanded (s : Store) (q limit before now : ℕ) : Type 0 where
  pub demanded : List ℤ
  pub demands : (x : ℤ) → Contains demanded x → InDem s q x
  pub ascending : IsAscending demanded
  pub bound : now ≤ before + length demanded * limit

-- the row has a term at i, and it is given
abbrev pub GivesTerm : Library → Terms → ℕ → ℕ → ℕ → Type 0
GivesTerm lib terms limit q i = (row : List ℤ) × (t : ℤ) × (terms q ≡ Some row) × (slice_get row i ≡ Some t) × Gives (outcome lib q (pos i) limit) t

-- One run for each of some leading terms that are given, one more, and one for each of some demanded arguments.
pub record AreSpent (s : Store) (terms : Terms) (limit q : ℕ) (p : Text) (before now : ℕ) : Type 0 where
  pub given : ℕ
  pub demanded : List ℤ
  pub gives : (i : ℕ) → i < given → GivesTerm (after s q p) terms limit q i
  pub demands : (x : ℤ) → Contains demanded x → InDem s q x
  pub ascending : IsAscending demanded
  pub bound : now ≤ before + (given + 1 + length demanded) * limit

-- the steps that were spent on a proposal that there may be
abbrev pub AreSpentFor : Store → Terms → ℕ → Option Proposal → ℕ → ℕ → Type 0
AreSpentFor s terms limit None before now = now ≡ before
AreSpentFor s terms limit (Some p) before now = AreSpent s terms limit p.name p.program before now

-- ---- the whole answer

-- it is the answer, with its finished runs
pub record IsWeighed (s : Store) (terms : Terms) (limit : ℕ) (proposal : Proposal) (w : Weighed) : Type 0 where
  pub answer : IsJudged s terms limit proposal.name proposal.program w.answer
  pub runs : AreRunsFor s proposal (accepted_count w.answer) w.runs

-- The proposed program may enter, and so many terms are given, or this was got in the place of the next one.
pub record IsTried (s : Store) (terms : Terms) (limit : ℕ) (proposal : Proposal) (row : List ℤ) (k : ℕ) (miss : Option Got) : Type 0 where
  pub sound : Sound s terms limit
  pub enters : Enters s terms proposal.name proposal.program row
  pub first : IsFirstMiss (after s proposal.name proposal.program) row proposal.name limit k miss

-- the same, whatever the terms are for which the store is sound and the program passes
abbrev pub IsWeighedFor : Store → ℕ → Proposal → ℕ → Weighed → Type 0
IsWeighedFor s limit proposal checked w =
    (terms : Terms) (row : List ℤ) → Sound s terms limit → Passes s terms limit proposal.name proposal.program row checked → IsWeighed s terms limit proposal w
