use Rattle.std.proofs.Common.{◌≤◌, ◌-◌}
use Rattle.proposer.proofs.Names.{Listed}
use Rattle.proposer.proofs.making.names.Given as goal

abbrev pub invariant-loop-name : goal.invariant-loop-name
invariant-loop-name g l = record { small : l.last ≤ 999999; listed : Listed (g.V.View.store l.view) l.last l.names.items }

abbrev pub decreases-loop-name : goal.decreases-loop-name
decreases-loop-name g l = 999999 - l.last
