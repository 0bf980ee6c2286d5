use Rattle.std.proofs.Common.{◌∙◌, []}
use Rattle.std.proofs.lemmas.Result.{err_from_is_err_and}
use Rattle.loda_syntax.specs.declared.word.Word.TheVariants.{Operation, Clear, LoopStart, LoopEnd, Call}
use Rattle.loda_syntax.specs.Grammar.{instr_read}
use Rattle.loda_syntax.proofs.Contents.{IsParts, word_fails, operands_fail, instr_is}
use Rattle.loda_syntax.proofs.content.instr_of.Goals as goal

pub returns-in_err-verb : goal.returns-in_err-verb
returns-in_err-verb c =
    let parts : IsParts c.args.text.now c.cut_word.result.0.now c.cut_word.result.1.now = record { word_is = c.cut_word.ensures.word; rest_is = c.cut_word.ensures.rest } in
    let p = err_from_is_err_and c.from_residual.result c.from_residual.ensures.1 in
    rw (p.1, p.2) (word_fails c.args.text.now c.cut_word.result.0.now c.cut_word.result.1.now c.in_err-verb.field-0.0 parts c.in_err-verb.ensures)

pub returns-in_err-target-in-Operation : goal.returns-in_err-target-in-Operation
returns-in_err-target-in-Operation c =
    let parts : IsParts c.args.text.now c.cut_word.result.0.now c.cut_word.result.1.now = record { word_is = c.cut_word.ensures.word; rest_is = c.cut_word.ensures.rest } in
    let p = err_from_is_err_and c.from_residual-in_err-target-in-Operation.result c.from_residual-in_err-target-in-Operation.ensures.1 in
    rw (p.1, p.2) (operands_fail c.args.text.now c.cut_word.result.0.now c.cut_word.result.1.now (Operation c.in-Operation.verb) c.in_err-target-in-Operation.field-0.0 parts (rw c.in-Operation.is at c.in_ok-verb.ensures) c.in_err-target-in-Operation.ensures)

pub returns-in_ok-target-in-Operation : goal.returns-in_ok-target-in-Operation
returns-in_ok-target-in-Operation c =
    let parts : IsParts c.args.text.now c.cut_word.result.0.now c.cut_word.result.1.now = record { word_is = c.cut_word.ensures.word; rest_is = c.cut_word.ensures.rest } in
    c.arith.ensures ∙ instr_is c.args.text.now c.cut_word.result.0.now c.cut_word.result.1.now (Operation c.in-Operation.verb) _ parts (rw c.in-Operation.is at c.in_ok-verb.ensures) c.in_ok-target-in-Operation.ensures

pub returns-in_err-target-in-Clear : goal.returns-in_err-target-in-Clear
returns-in_err-target-in-Clear c =
    let parts : IsParts c.args.text.now c.cut_word.result.0.now c.cut_word.result.1.now = record { word_is = c.cut_word.ensures.word; rest_is = c.cut_word.ensures.rest } in
    let p = err_from_is_err_and c.from_residual-in_err-target-in-Clear.result c.from_residual-in_err-target-in-Clear.ensures.1 in
    rw (p.1, p.2) (operands_fail c.args.text.now c.cut_word.result.0.now c.cut_word.result.1.now Clear c.in_err-target-in-Clear.field-0.0 parts (rw c.in-Clear.is at c.in_ok-verb.ensures) c.in_err-target-in-Clear.ensures)

pub returns-in_ok-target-in-Clear : goal.returns-in_ok-target-in-Clear
returns-in_ok-target-in-Clear c =
    let parts : IsParts c.args.text.now c.cut_word.result.0.now c.cut_word.result.1.now = record { word_is = c.cut_word.ensures.word; rest_is = c.cut_word.ensures.rest } in
    c.clear.ensures ∙ instr_is c.args.text.now c.cut_word.result.0.now c.cut_word.result.1.now Clear _ parts (rw c.in-Clear.is at c.in_ok-verb.ensures) c.in_ok-target-in-Clear.ensures

pub returns-in_err-target-in-LoopStart : goal.returns-in_err-target-in-LoopStart
returns-in_err-target-in-LoopStart c =
    let parts : IsParts c.args.text.now c.cut_word.result.0.now c.cut_word.result.1.now = record { word_is = c.cut_word.ensures.word; rest_is = c.cut_word.ensures.rest } in
    let p = err_from_is_err_and c.from_residual-in_err-target-in-LoopStart.result c.from_residual-in_err-target-in-LoopStart.ensures.1 in
    rw (p.1, p.2) (operands_fail c.args.text.now c.cut_word.result.0.now c.cut_word.result.1.now LoopStart c.in_err-target-in-LoopStart.field-0.0 parts (rw c.in-LoopStart.is at c.in_ok-verb.ensures) c.in_err-target-in-LoopStart.ensures)

pub returns-in_ok-target-in-LoopStart : goal.returns-in_ok-target-in-LoopStart
returns-in_ok-target-in-LoopStart c =
    let parts : IsParts c.args.text.now c.cut_word.result.0.now c.cut_word.result.1.now = record { word_is = c.cut_word.ensures.word; rest_is = c.cut_word.ensures.rest } in
    c.loop_start.ensures ∙ instr_is c.args.text.now c.cut_word.result.0.now c.cut_word.result.1.now LoopStart _ parts (rw c.in-LoopStart.is at c.in_ok-verb.ensures) c.in_ok-target-in-LoopStart.ensures

pub returns-in_err-no_operands-in-LoopEnd : goal.returns-in_err-no_operands-in-LoopEnd
returns-in_err-no_operands-in-LoopEnd c =
    let parts : IsParts c.args.text.now c.cut_word.result.0.now c.cut_word.result.1.now = record { word_is = c.cut_word.ensures.word; rest_is = c.cut_word.ensures.rest } in
    let p = err_from_is_err_and c.from_residual-in_err-no_operands-in-LoopEnd.result c.from_residual-in_err-no_operands-in-LoopEnd.ensures.1 in
    rw (p.1, p.2) (operands_fail c.args.text.now c.cut_word.result.0.now c.cut_word.result.1.now LoopEnd c.in_err-no_operands-in-LoopEnd.field-0.0 parts (rw c.in-LoopEnd.is at c.in_ok-verb.ensures) c.in_err-no_operands-in-LoopEnd.ensures)

pub returns-in_ok-no_operands-in-LoopEnd : goal.returns-in_ok-no_operands-in-LoopEnd
unfolding instr_read
returns-in_ok-no_operands-in-LoopEnd c =
    let parts : IsParts c.args.text.now c.cut_word.result.0.now c.cut_word.result.1.now = record { word_is = c.cut_word.ensures.word; rest_is = c.cut_word.ensures.rest } in
    instr_is c.args.text.now c.cut_word.result.0.now c.cut_word.result.1.now LoopEnd [] parts (rw c.in-LoopEnd.is at c.in_ok-verb.ensures) c.in_ok-no_operands-in-LoopEnd.ensures

pub returns-in_err-target-in-Call : goal.returns-in_err-target-in-Call
returns-in_err-target-in-Call c =
    let parts : IsParts c.args.text.now c.cut_word.result.0.now c.cut_word.result.1.now = record { word_is = c.cut_word.ensures.word; rest_is = c.cut_word.ensures.rest } in
    let p = err_from_is_err_and c.from_residual-in_err-target-in-Call.result c.from_residual-in_err-target-in-Call.ensures.1 in
    rw (p.1, p.2) (operands_fail c.args.text.now c.cut_word.result.0.now c.cut_word.result.1.now Call c.in_err-target-in-Call.field-0.0 parts (rw c.in-Call.is at c.in_ok-verb.ensures) c.in_err-target-in-Call.ensures)

pub returns-in_ok-target-in-Call : goal.returns-in_ok-target-in-Call
returns-in_ok-target-in-Call c =
    let parts : IsParts c.args.text.now c.cut_word.result.0.now c.cut_word.result.1.now = record { word_is = c.cut_word.ensures.word; rest_is = c.cut_word.ensures.rest } in
    c.call.ensures ∙ instr_is c.args.text.now c.cut_word.result.0.now c.cut_word.result.1.now Call _ parts (rw c.in-Call.is at c.in_ok-verb.ensures) c.in_ok-target-in-Call.ensures
