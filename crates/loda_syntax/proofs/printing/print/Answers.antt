use Rattle.std.proofs.Common.{arith}
use Rattle.std.proofs.lemmas.Result.{err_from_is_err_and}
use Rattle.loda_syntax.proofs.Printed.{start, so_far, one_printed, next_depth_le, all_printed, none_left}
use Rattle.loda_syntax.proofs.printing.print.Goals as goal

pub loop-instr-init : goal.loop-instr-init
loop-instr-init c = record { depth = omega arith; printed = start c.args.out.now.items c.args.program.now c.instrs-instr-items.result.now c.instrs-instr-items.ensures.value }

pub returns-in_err-write_line-clause-err : goal.returns-in_err-write_line-clause-err
returns-in_err-write_line-clause-err c =
    let p = err_from_is_err_and c.from_residual.result c.from_residual.ensures.1 in
    rw p.1 (so_far _ _ _ _ c.loop-instr.invariant.printed)

pub returns-in_err-extend_from_slice-clause-err : goal.returns-in_err-extend_from_slice-clause-err
returns-in_err-extend_from_slice-clause-err c =
    let p = err_from_is_err_and c.from_residual-in_err-extend_from_slice.result c.from_residual-in_err-extend_from_slice.ensures.1 in
    rw (p.1, c.in_err-extend_from_slice.ensures.items) (so_far _ _ _ _ c.loop-instr.invariant.printed)

pub loop-instr-preserved : goal.loop-instr-preserved
loop-instr-preserved c = record {
  depth = next_depth_le _ _ _ _ c.depth_after-depth.ensures c.loop-instr.invariant.depth;
  printed =
      one_printed c.args.out.now.items c.loop-instr.out.items c.extend_from_slice.new.self.items _ c.write_line.new.out.items c.loop-instr.depth c.depth_after-depth.result c.loop-instr.instr-index c.instrs-instr-items.result.now _
      c.loop-instr-test.true (rw c.clear.ensures.items at c.in_ok-write_line.ensures) c.depth_after-depth.ensures (rw c.deref.ensures.value at c.in_ok-extend_from_slice.ensures.items) c.loop-instr.invariant.printed;
}

pub returns-clause-ok : goal.returns-clause-ok
returns-clause-ok c = all_printed _ _ _ _ (none_left c.loop-instr.depth c.loop-instr.instr-index c.instrs-instr-items.result.now (omega (arith, c.loop-instr-test.false))) c.loop-instr.invariant.printed
