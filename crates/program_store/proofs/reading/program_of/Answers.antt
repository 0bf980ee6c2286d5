use Rattle.std.proofs.Common.{arith}
use Rattle.program_store.proofs.FaultLines.{fault_line}
use Rattle.program_store.proofs.reading.program_of.Goals as goal

pub overflow_add-section : goal.overflow_add-section
overflow_add-section c =
    let bad = rw c.in-Err-Syntax.field-0-is at c.in-Err-Syntax.ensures in
    let few = fault_line c.args.section.text.now c.in-Err-Syntax.line c.in-Err-Syntax.kind bad.bad in
    omega (arith, few, c.requires)
