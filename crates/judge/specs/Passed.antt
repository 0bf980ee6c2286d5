-- Which leading terms of a row a program gives.
use Rattle.std.specs.Prelude.{ℕ, ◌<◌, ◌≡◌, ◌⊎◌, Bool, false, IsFalse, ℤ, pos, List, length, slice_get}
use Rattle.std.specs.declared.option.Option.{Option}
use Rattle.std.specs.declared.option.Option.TheVariants.{Some}
use Rattle.loda_semantics.specs.declared.kinds.FaultKind.TheVariants as kind
use Rattle.loda_semantics.specs.Exec.{Outcome, value, fault, out, Library}
use Rattle.seq_calls.specs.Values.{outcome, gives, Gives}
use Rattle.judge.specs.declared.answer.Got.{Got}
use Rattle.judge.specs.declared.answer.Got.TheVariants as got

-- the usable terms of each name that has a row
abbrev pub Terms : Type 0
Terms = ℕ → Option (List ℤ)

-- what was got, of an outcome
abbrev pub got_of : Outcome → Got
got_of (value v n) = got.Value v
got_of (fault kind.Overflow n) = got.Overflow
got_of (fault kind.DivideByZero n) = got.DivideByZero
got_of (fault kind.BadCell n) = got.BadCell
got_of (fault kind.Missing n) = got.Missing
got_of (out n) = got.OutOfSteps

-- whether both outcomes are values, and the same
abbrev pub agree : Outcome → Outcome → Bool
agree (value v n) o = gives o v
agree (fault k n) o = false
agree (out n) o = false

-- each of the first k terms is given
abbrev pub PassesBelow : Library → List ℤ → ℕ → ℕ → ℕ → Type 0
PassesBelow lib row q limit k = (i : ℕ) (t : ℤ) → i < k → slice_get row i ≡ Some t → Gives (outcome lib q (pos i) limit) t

-- the term at k is the first that isn't given
abbrev pub FailsFirst : Library → List ℤ → ℕ → ℕ → ℕ → Type 0
FailsFirst lib row q limit k =
    (t : ℤ) × (slice_get row k ≡ Some t) × IsFalse (gives (outcome lib q (pos k) limit) t) × PassesBelow lib row q limit k

-- k is the greatest number of leading terms that are given
abbrev pub IsPassed : Library → List ℤ → ℕ → ℕ → ℕ → Type 0
IsPassed lib row q limit k = (PassesBelow lib row q limit k × (k ≡ length row)) ⊎ FailsFirst lib row q limit k
