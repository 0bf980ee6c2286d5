-- The finished runs of a name at some arguments, and what its runs cost. Only clauses of private functions use what stands here.
use Rattle.std.specs.Prelude.{ℕ, ◌<◌, ◌≡◌, ◌↔◌, ℤ, pos, List, length, Contains, slice_get}
use Rattle.std.specs.declared.option.Option.TheVariants.{Some}
use Rattle.seq_calls.specs.Values.{outcome}
use Rattle.loda_semantics.specs.Exec.{Library, run_name}
use Rattle.seq_calls.specs.declared.outcomes.NodeRun.{NodeRun}
use Rattle.seq_calls.specs.Frames.{nodes_of, steps_of}

-- the finished runs of the runs of q at these arguments, and nothing else
abbrev pub AreRunsAt : Library → ℕ → ℕ → (ℤ → Type 0) → List NodeRun → Type 0
AreRunsAt lib q limit At runs = (node : NodeRun) → Contains runs node ↔ ((x : ℤ) × At x × Contains (nodes_of q x (run_name lib q x limit)) node)

-- the argument is one of the first k
abbrev pub IsFirst : ℕ → ℤ → Type 0
IsFirst k x = (i : ℕ) × (i < k) × (x ≡ pos i)

-- it is one of the first n on the list
abbrev pub IsOf : List ℤ → ℕ → ℤ → Type 0
IsOf xs n x = (i : ℕ) × (i < n) × (slice_get xs i ≡ Some x)

-- what the runs at the first arguments cost
abbrev pub AreCosts : Library → ℕ → ℕ → List ℕ → Type 0
AreCosts lib q limit costs = (i c : ℕ) → slice_get costs i ≡ Some c → c ≡ steps_of (outcome lib q (pos i) limit)

-- the costs and the finished runs of q at the first arguments, as many as there are costs
pub record AreFirst (lib : Library) (q limit : ℕ) (costs : List ℕ) (runs : List NodeRun) : Type 0 where
  pub cost : AreCosts lib q limit costs
  pub frames : AreRunsAt lib q limit (IsFirst (length costs)) runs
