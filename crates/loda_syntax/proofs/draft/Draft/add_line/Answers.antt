use Rattle.std.proofs.Common.{sym}
use Rattle.loda_syntax.proofs.Drafts.{no_instr, some_instr, own_fault, fails_so}
use Rattle.loda_syntax.proofs.draft.Draft.add_line.Goals as goal

pub returns-in-Ok-Some : goal.returns-in-Ok-Some
returns-in-Ok-Some c =
    let is = rw c.in-Ok-Some.field-0-is at c.in-Ok-Some.ensures in
    rw (some_instr c.args.number c.args.self.now c.args.text.now c.in-Ok-Some.instr (sym is)) c.add.ensures

pub returns-in-Ok-None : goal.returns-in-Ok-None
returns-in-Ok-None c =
    let is = rw c.in-Ok-None.field-0-is at c.in-Ok-None.ensures in
    no_instr c.args.number c.args.self.now c.args.text.now (sym is)

pub returns-in-Err : goal.returns-in-Err
returns-in-Err c = fails_so c.args.number c.in-Err.kind c.fault.result _ c.fault.ensures (own_fault c.args.number c.args.self.now c.args.text.now c.in-Err.kind (sym c.in-Err.ensures))
