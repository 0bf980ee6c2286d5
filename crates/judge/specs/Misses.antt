-- The first term of a row that isn't given, and what was got in its place.
use Rattle.std.specs.Prelude.{ℕ, ◌<◌, ◌≡◌, max, ℤ, pos, List, length}
use Rattle.std.specs.declared.option.Option.{Option}
use Rattle.std.specs.declared.option.Option.TheVariants.{Some, None}
use Rattle.loda_semantics.specs.declared.kinds.FaultKind.TheVariants as kind
use Rattle.loda_semantics.specs.Exec.{Library}
use Rattle.program_store.specs.declared.published.Published.{Published}
use Rattle.program_store.specs.Store.{Store, published_at, programs_of}
use Rattle.program_store.specs.Graph.{NoCycle}
use Rattle.seq_calls.specs.declared.outcomes.Outcome.{Outcome as Told}
use Rattle.seq_calls.specs.declared.outcomes.Outcome.TheVariants as told_as
use Rattle.seq_calls.specs.Values.{outcome}
use Rattle.judge.specs.declared.answer.Got.{Got}
use Rattle.judge.specs.declared.answer.Got.TheVariants as got
use Rattle.judge.specs.declared.answer.Unsound.{Unsound}
use Rattle.judge.specs.declared.passing.NewCount.{NewCount}
use Rattle.judge.specs.declared.passing.NewCount.TheVariants.{Checked, Wrong}
use Rattle.judge.specs.Judged.{IsNewChecked}
use Rattle.judge.specs.Passed.{Terms, got_of, PassesBelow, FailsFirst}
use Rattle.judge.specs.Sound.{IsEntrySound, SoundBelow, IsUnsound}

-- what was got, of an outcome as it is told
abbrev pub got_told : Told → Got
got_told (told_as.Value v n) = got.Value v
got_told (told_as.Fault kind.Overflow n) = got.Overflow
got_told (told_as.Fault kind.DivideByZero n) = got.DivideByZero
got_told (told_as.Fault kind.BadCell n) = got.BadCell
got_told (told_as.Fault kind.Missing n) = got.Missing
got_told told_as.OutOfSteps = got.OutOfSteps

-- All terms are given, and k is their number, or the term at k is the first that isn't, and this was got in its place.
abbrev pub IsFirstMiss : Library → List ℤ → ℕ → ℕ → ℕ → Option Got → Type 0
IsFirstMiss lib row q limit k None = PassesBelow lib row q limit k × (k ≡ length row)
IsFirstMiss lib row q limit k (Some g) = FailsFirst lib row q limit k × (g ≡ got_of (outcome lib q (pos k) limit))

-- what is wrong with the entry of a name: nothing, or the store's reason where nothing was found before it
abbrev pub IsEntryFault : Store → Terms → ℕ → ℕ → Option Unsound → Type 0
IsEntryFault s terms limit q None = (e : Published) → published_at s q ≡ Some e → IsEntrySound s terms limit q e
IsEntryFault s terms limit q (Some u) = NoCycle (programs_of s) → SoundBelow s terms limit q → IsUnsound s terms limit u

-- the new checked count, or the first term that is wrong
abbrev pub IsNewCount : Library → List ℤ → ℕ → ℕ → ℕ → NewCount → Type 0
IsNewCount lib row q limit old (Checked k) = IsNewChecked lib row q limit old k
IsNewCount lib row q limit old (Wrong k g) =
    FailsFirst lib row q limit k × (g ≡ got_of (outcome lib q (pos k) limit)) × (g ≡ got.OutOfSteps → k < max 8 old)
