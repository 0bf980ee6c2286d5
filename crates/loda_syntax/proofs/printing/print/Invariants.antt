use Rattle.std.proofs.Common.{◌≤◌, drop}
use Rattle.loda_syntax.specs.Canon.{canon, lines_text}
use Rattle.loda_syntax.proofs.Printed.{IsPrinted}
use Rattle.loda_syntax.proofs.printing.print.Given as goal

abbrev pub invariant-loop-instr : goal.invariant-loop-instr
invariant-loop-instr l = record {
  depth : l.depth ≤ l.instr-index;
  printed : IsPrinted l.fn.out.items l.out.items (lines_text l.depth (drop l.instr-index l.instr-items)) (canon l.program);
}
