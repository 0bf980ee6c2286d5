use Rattle.std.proofs.Common.{◌≡◌, ◌∙◌, [], ◌∷◌, ap}
use Rattle.loda_syntax.specs.Lines.{cut_operands}
use Rattle.loda_syntax.specs.Grammar.{operand_read, operands_read, all_read}
use Rattle.loda_syntax.proofs.Operands.{one_too_few, too_many, two_read}
use Rattle.loda_syntax.proofs.operand.two_operands.Goals as goal

pub returns-in_default : goal.returns-in_default
returns-in_default c = one_too_few c.args.text.now c.in_default.ensures.none

pub returns-in-None : goal.returns-in-None
returns-in-None c =
    let first : c.operand_of.result ≡ operand_read _ = c.operand_of.ensures ∙ ap operand_read c.trim.ensures in
    let second : c.operand_of-in-None.result ≡ operand_read _ = c.operand_of-in-None.ensures ∙ ap operand_read c.trim-in-None.ensures in
    let e : operands_read 2 2 (cut_operands c.args.text.now) ≡ all_read 2 2 (c.operand_of.result ∷ c.operand_of-in-None.result ∷ []) =
    rw (first, second) (two_read c.args.text.now c.in-Some.first.now c.in-Some.rest.now c.in-Some.ensures.some c.in-None.ensures.none) in
    rw e c.both.ensures

pub returns-in-Some-cut_at : goal.returns-in-Some-cut_at
returns-in-Some-cut_at c =
    too_many c.args.text.now c.in-Some.first.now c.in-Some.rest.now c.in-Some-cut_at.field-0.0.now c.in-Some-cut_at.field-0.1.now c.in-Some.ensures.some c.in-Some-cut_at.ensures.some
