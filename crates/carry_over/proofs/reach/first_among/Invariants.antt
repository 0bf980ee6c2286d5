use Rattle.std.specs.Prelude.{Contains}
use Rattle.carry_over.proofs.Touching.{NoneBelow}
use Rattle.carry_over.proofs.reach.first_among.Given as goal

abbrev pub invariant-loop-change : goal.invariant-loop-change
invariant-loop-change l = NoneBelow (Contains l.names.keys) l.changes l.change-index
