-- The names that a program may call.
use Rattle.std.specs.Prelude.{ℕ, ◌≤◌, List, length, All}
use Rattle.text_parts.specs.Names.{IsName}
use Rattle.text_parts.specs.declared.names.TheConstants.{GREATEST_NAME}

-- at most 999,999 of them
pub record AreNames (names : List ℕ) : Type 0 where
  pub few : length names ≤ GREATEST_NAME
  pub each : All IsName names
