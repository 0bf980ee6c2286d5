use Rattle.std.proofs.Common.{◌≤◌, ◌-◌}
use Rattle.program_store.proofs.PrintLoop.{Printed}
use Rattle.program_store.proofs.printing.print_store.Given as goal
use Rattle.text_parts.specs.declared.names.TheConstants.{GREATEST_NAME}

abbrev pub invariant-loop-name : goal.invariant-loop-name
invariant-loop-name g l = (l.last ≤ GREATEST_NAME) × Printed (g.V.View.store l.view) l.fn.out.items l.last l.out.items

abbrev pub decreases-loop-name : goal.decreases-loop-name
decreases-loop-name g l = GREATEST_NAME - l.last
