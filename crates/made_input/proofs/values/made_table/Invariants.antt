use Rattle.std.proofs.Common.{◌≡◌}
use Rattle.made_input.specs.Values.{rows}
use Rattle.made_input.proofs.values.made_table.Given as goal

abbrev pub invariant-loop-place : goal.invariant-loop-place
invariant-loop-place l = l.rows.items ≡ rows l.place
