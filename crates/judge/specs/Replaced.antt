-- What is answered to a proposal for a published name. Only clauses of private functions use what stands here.
use Rattle.std.specs.Prelude.{ℕ, ◌<◌, ◌≤◌, ◌≡◌, ℤ, pos, List, length}
use Rattle.loda_syntax.specs.Programs.{Text, instrs}
use Rattle.program_store.specs.declared.published.Published.{Published}
use Rattle.program_store.specs.Store.{Store}
use Rattle.seq_calls.specs.declared.outcomes.Outcome.{Outcome as Told}
use Rattle.seq_calls.specs.declared.outcomes.Outcome.TheVariants as told_as
use Rattle.judge.specs.declared.answer.Answer.{Answer}
use Rattle.judge.specs.declared.answer.Answer.TheVariants.{BrokenDependant, Costlier}
use Rattle.judge.specs.declared.comparing.Changed.{Changed}
use Rattle.judge.specs.Passed.{Terms}
use Rattle.judge.specs.Misses.{got_told}
use Rattle.judge.specs.Sound.{Sound}
use Rattle.judge.specs.Judged.{Passes, IsJudged}
use Rattle.judge.specs.Changes.{runs_at, SameSteps}

-- it is a value
abbrev pub HasValue : Told → Type 0
HasValue o = (v : ℤ) × (n : ℕ) × (o ≡ told_as.Value v n)

-- The answer tells the argument, the checked run, the value that was, and what was got in its place.
abbrev pub IsBroken : Changed → Answer → Type 0
IsBroken c a = (v : ℤ) × (n : ℕ) × (c.runs.with_old ≡ told_as.Value v n) × (a ≡ BrokenDependant c.at c.by.name c.by.index v (got_told c.runs.with_new))

-- The answer tells the argument, and the steps of both runs.
abbrev pub IsCostlier : Changed → Answer → Type 0
IsCostlier c a = (v w : ℤ) × (n m : ℕ) × (c.runs.with_old ≡ told_as.Value v n) × (c.runs.with_new ≡ told_as.Value w m) × (a ≡ Costlier c.at n m)

-- each of the first `count` arguments takes as many steps as before
abbrev pub TakesSameSteps : Store → ℕ → ℕ → Text → ℕ → Type 0
TakesSameSteps s limit q p count = (i : ℕ) → i < count → SameSteps (runs_at s limit q p (pos i))

-- no more terms are checked, no checked argument is cheaper, and the text is no shorter
pub record BringsNothing (s : Store) (limit q : ℕ) (p : Text) (e : Published) (checked : ℕ) : Type 0 where
  pub count : checked ≡ e.checked
  pub size : length (instrs e.program) ≤ length (instrs p)
  pub steps : TakesSameSteps s limit q p checked

-- It is the answer, whatever the terms are for which the store is sound and the program passes.
abbrev pub IsAnswerForAnyTerms : Store → ℕ → ℕ → Text → ℕ → Answer → Type 0
IsAnswerForAnyTerms s limit q p checked a = (terms : Terms) (row : List ℤ) → Sound s terms limit → Passes s terms limit q p row checked → IsJudged s terms limit q p a
