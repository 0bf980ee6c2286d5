use Rattle.std.proofs.Common.{◌≡◌, ◌++◌, ◌*◌, ◌∙◌, ℕ, List, ap, append_assoc, arith}
use Rattle.std.specs.Prelude.{replicate}
use Rattle.loda_syntax.specs.Canon.{depth_at}
use Rattle.loda_syntax.proofs.Printed.{indent_more, line_built}
use Rattle.loda_syntax.proofs.printing.write_line.Goals as goal

pub indent-preserved : goal.indent-preserved
indent-preserved c = rw (c.in_ok-extend_from_slice.ensures.items, c.indent.invariant) (append_assoc c.args.out.now.items (replicate (2 * c.indent.counter) 32) _ ∙ ap (λ (t : List ℕ). c.args.out.now.items ++ t) (indent_more c.indent.counter 32))

pub returns : goal.returns
returns c =
    let count : c.indent.counter ≡ depth_at c.args.depth c.args.instr.now = omega (arith, c.depth_at-end.ensures) in
    line_built c.args.out.now.items c.indent.out.items c.write_instr.new.out.items c.push.new.self.items c.indent.counter c.args.depth c.args.instr.now c.indent.invariant count c.in_ok-write_instr.ensures c.in_ok-push.ensures.items
