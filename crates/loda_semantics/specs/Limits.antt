-- The bounds of a run's step limit.
use Rattle.std.specs.Prelude.{ℕ, ◌≤◌}
use Rattle.loda_semantics.specs.declared.limits.TheConstants.{GREATEST_STEP_LIMIT}

-- a step limit: a number from 1 to 10,000,000
abbrev pub IsStepLimit : ℕ → Type 0
IsStepLimit limit = (1 ≤ limit) × (limit ≤ GREATEST_STEP_LIMIT)
