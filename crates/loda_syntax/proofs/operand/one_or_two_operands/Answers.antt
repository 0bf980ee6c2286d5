use Rattle.std.proofs.Common.{◌∙◌, sym, ap}
use Rattle.loda_syntax.specs.Grammar.{operand_read}
use Rattle.loda_syntax.proofs.Operands.{none_too_few, one_read, one_or_two_read}
use Rattle.loda_syntax.proofs.operand.one_or_two_operands.Goals as goal

pub returns-then-is_empty : goal.returns-then-is_empty
returns-then-is_empty c = none_too_few c.args.text.now (sym c.is_empty.ensures ∙ c.if-is_empty.true)

pub returns-in-Ok : goal.returns-in-Ok
returns-in-Ok c = one_or_two_read c.args.text.now c.in-Some.field-0.0.now c.in-Some.field-0.1.now c.in-Some.ensures.some ∙ c.in-Ok.ensures

pub returns-in-Err : goal.returns-in-Err
returns-in-Err c = one_or_two_read c.args.text.now c.in-Some.field-0.0.now c.in-Some.field-0.1.now c.in-Some.ensures.some ∙ c.in-Err.ensures

pub returns-in-Ok-one : goal.returns-in-Ok-one
returns-in-Ok-one c = one_read c.args.text.now c.operand_of.result (sym c.is_empty.ensures ∙ c.if-is_empty.false) c.in-None.ensures.none (c.operand_of.ensures ∙ ap operand_read c.trim.ensures) ∙ c.in-Ok-one.ensures

pub returns-in-Err-one : goal.returns-in-Err-one
returns-in-Err-one c = one_read c.args.text.now c.operand_of.result (sym c.is_empty.ensures ∙ c.if-is_empty.false) c.in-None.ensures.none (c.operand_of.ensures ∙ ap operand_read c.trim.ensures) ∙ c.in-Err-one.ensures
