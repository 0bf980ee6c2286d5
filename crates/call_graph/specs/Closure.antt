-- What a set of names has to do with the calls of their programs.
use Rattle.std.specs.Prelude.{ℕ, ◌≡◌, ◌<◌, List, Contains}
use Rattle.std.specs.declared.option.Option.TheVariants.{Some}
use Rattle.loda_syntax.specs.Programs.{Text}
use Rattle.loda_semantics.specs.Exec.{Library}
use Rattle.program_store.specs.Graph.{calls_of, Reaches, CallsReach}

-- the name has a program that calls the other name
abbrev pub CallsName : Library → ℕ → ℕ → Type 0
CallsName lib from to = (p : Text) × (lib from ≡ Some p) × Contains (calls_of p) to

-- the name has a program, and some call of it reaches the other name
abbrev pub ReachesByCall : Library → ℕ → ℕ → Type 0
ReachesByCall lib from to = (p : Text) × (lib from ≡ Some p) × CallsReach lib p to

-- each name that the program of this name calls is on the list
abbrev pub HasCallsOf : Library → List ℕ → ℕ → Type 0
HasCallsOf lib names q = (p : Text) → lib q ≡ Some p → (n : ℕ) → Contains (calls_of p) n → Contains names n

-- the list has what its names call
abbrev pub HasItsCalls : Library → List ℕ → Type 0
HasItsCalls lib names = (q : ℕ) → Contains names q → HasCallsOf lib names q

-- q is the least number with the property
abbrev pub IsLeast : (ℕ → Type 0) → ℕ → Type 0
IsLeast P q = P q × ((k : ℕ) → k < q → P k → ⊥)

-- some name on the list reaches q
abbrev pub ReachedFrom : Library → List ℕ → ℕ → Type 0
ReachedFrom lib names q = (s : ℕ) × Contains names s × Reaches lib s q
