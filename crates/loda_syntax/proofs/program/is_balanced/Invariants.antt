use Rattle.std.proofs.Common.{drop, ◌≤◌}
use Rattle.std.specs.Prelude.{◌↔◌, zero}
use Rattle.loda_syntax.specs.WellFormed.{IsBalanced}
use Rattle.loda_syntax.proofs.program.is_balanced.Given as goal

abbrev pub invariant-loop-instr : goal.invariant-loop-instr
invariant-loop-instr l = record {
  few : l.depth ≤ l.instr-index;
  same : IsBalanced l.depth (drop l.instr-index l.list) ↔ IsBalanced zero l.list;
}
