use Rattle.std.proofs.Common.{◌≡◌, ◌++◌, ◌*◌}
use Rattle.std.specs.Prelude.{replicate}
use Rattle.loda_syntax.proofs.printing.write_line.Given as goal

abbrev pub invariant-indent : goal.invariant-indent
invariant-indent l = l.out.items ≡ l.fn.out.items ++ replicate (2 * l.counter) 32
