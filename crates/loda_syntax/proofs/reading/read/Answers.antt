use Rattle.std.proofs.Common.{arith}
use Rattle.std.proofs.lemmas.Result.{err_from_is_err_and}
use Rattle.loda_syntax.proofs.Drafts.{next_draft}
use Rattle.loda_syntax.proofs.Texts.{step, line_fails, last_fails, whole_read}
use Rattle.loda_syntax.proofs.reading.read.Goals as goal

pub returns-in_err-add_line : goal.returns-in_err-add_line
returns-in_err-add_line c =
    let p = err_from_is_err_and c.from_residual.result c.from_residual.ensures.1 in
    rw (p.1, p.2)
    (line_fails c.args.text.now c.loop-line.rest.now c.in-Some.line.now c.in-Some.after.now c.loop-line.number c.loop-line.draft c.in_err-add_line.field-0.0 c.in-Some.ensures.some c.loop-line.invariant.left
    c.in_err-add_line.ensures)

pub loop-line-preserved : goal.loop-line-preserved
loop-line-preserved c = record {
  formed = next_draft c.loop-line.number c.loop-line.draft c.add_line.new.self c.in-Some.line.now c.loop-line.invariant.formed c.in_ok-add_line.ensures;
  number = omega (arith, c.in-Some.ensures.some.shorter);
  left = step c.args.text.now c.loop-line.rest.now c.in-Some.line.now c.in-Some.after.now c.loop-line.number c.loop-line.draft c.add_line.new.self c.in-Some.ensures.some c.loop-line.invariant.left c.in_ok-add_line.ensures;
}

pub returns-in_err-add_line-2 : goal.returns-in_err-add_line-2
returns-in_err-add_line-2 c =
    let p = err_from_is_err_and c.from_residual-in_err-add_line-2.result c.from_residual-in_err-add_line-2.ensures.1 in
    rw (p.1, p.2)
    (last_fails c.args.text.now c.loop-line.rest.now c.loop-line.number c.loop-line.draft c.in_err-add_line-2.field-0.0 c.in_default.ensures.none c.loop-line.invariant.left c.in_err-add_line-2.ensures)

pub finish-requires : goal.finish-requires
finish-requires c = next_draft c.loop-line.number c.loop-line.draft c.add_line-2.new.self c.loop-line.rest.now c.loop-line.invariant.formed c.in_ok-add_line-2.ensures

pub returns : goal.returns
returns c = rw (whole_read c.args.text.now c.loop-line.rest.now c.loop-line.number c.loop-line.draft c.add_line-2.new.self c.in_default.ensures.none c.loop-line.invariant.left c.in_ok-add_line-2.ensures) c.finish.ensures
