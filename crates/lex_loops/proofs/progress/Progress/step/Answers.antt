use Rattle.std.proofs.Common.{pos, arith}
use Rattle.loda_syntax.specs.declared.instr.Instr.TheVariants.{Arith, Clear, LoopStart, LoopEnd, Call}
use Rattle.lex_loops.proofs.Going.{if_ok, on_err_both, reads, charged-at}
use Rattle.loda_syntax.specs.declared.instr.Instr.{Instr}
use Rattle.loda_syntax.specs.declared.instr.Verb.TheVariants.{Mov}
use Rattle.loda_syntax.specs.declared.instr.Operand.TheVariants.{Constant}
use Rattle.lex_loops.proofs.progress.Progress.step.Goals as goal

-- what a read past the end of a list would give
abbrev nothing : Instr
nothing = Arith Mov (Constant (pos 0)) (Constant (pos 0))

pub returns-in-Arith-clause-steps : goal.returns-in-Arith-clause-steps
returns-in-Arith-clause-steps c =
    if_ok c.arithmetic.result (λ stop acts. acts c.args.list.now (reads c.args.list.now c.args.self.now.at (Arith c.in-Arith.verb c.in-Arith.target c.in-Arith.source) nothing c.requires.place c.in-Arith.is) c.requires.under_way) c.arithmetic.ensures.acts

pub returns-in-Arith-clause-charged : goal.returns-in-Arith-clause-charged
returns-in-Arith-clause-charged c =
    on_err_both c.arithmetic.result (λ sum past. charged-at c.args.list.now (Arith c.in-Arith.verb c.in-Arith.target c.in-Arith.source) c.args.self.now c.args.budget.now c.arithmetic.new.budget c.arithmetic.new.self.at
    (reads c.args.list.now c.args.self.now.at (Arith c.in-Arith.verb c.in-Arith.target c.in-Arith.source) nothing c.requires.place c.in-Arith.is) (omega arith) past sum) c.arithmetic.ensures.charged c.arithmetic.ensures.past

pub returns-in-Clear-clause-steps : goal.returns-in-Clear-clause-steps
returns-in-Clear-clause-steps c =
    if_ok c.clear.result (λ stop acts. acts c.args.list.now (reads c.args.list.now c.args.self.now.at (Clear c.in-Clear.start c.in-Clear.count) nothing c.requires.place c.in-Clear.is) c.requires.under_way) c.clear.ensures.acts

pub returns-in-Clear-clause-charged : goal.returns-in-Clear-clause-charged
returns-in-Clear-clause-charged c =
    on_err_both c.clear.result (λ sum past. charged-at c.args.list.now (Clear c.in-Clear.start c.in-Clear.count) c.args.self.now c.args.budget.now c.clear.new.budget c.clear.new.self.at
    (reads c.args.list.now c.args.self.now.at (Clear c.in-Clear.start c.in-Clear.count) nothing c.requires.place c.in-Clear.is) (omega arith) past sum) c.clear.ensures.charged c.clear.ensures.past

pub returns-in-LoopStart-clause-steps : goal.returns-in-LoopStart-clause-steps
returns-in-LoopStart-clause-steps c =
    if_ok c.open.result (λ stop acts. acts c.args.list.now (reads c.args.list.now c.args.self.now.at (LoopStart c.in-LoopStart.start c.in-LoopStart.len) nothing c.requires.place c.in-LoopStart.is) c.requires.under_way) c.open.ensures.acts

pub returns-in-LoopStart-clause-charged : goal.returns-in-LoopStart-clause-charged
returns-in-LoopStart-clause-charged c =
    on_err_both c.open.result (λ sum past. charged-at c.args.list.now (LoopStart c.in-LoopStart.start c.in-LoopStart.len) c.args.self.now c.args.budget.now c.open.new.budget c.open.new.self.at
    (reads c.args.list.now c.args.self.now.at (LoopStart c.in-LoopStart.start c.in-LoopStart.len) nothing c.requires.place c.in-LoopStart.is) (omega arith) past sum) c.open.ensures.charged c.open.ensures.past

pub returns-in-LoopEnd-clause-steps : goal.returns-in-LoopEnd-clause-steps
returns-in-LoopEnd-clause-steps c =
    c.close.ensures.acts c.args.list.now (reads c.args.list.now c.args.self.now.at LoopEnd nothing c.requires.place c.in-LoopEnd.is) c.requires.under_way

pub returns-in-Call-clause-steps : goal.returns-in-Call-clause-steps
returns-in-Call-clause-steps c =
    if_ok c.call.result (λ stop acts. acts c.args.list.now (reads c.args.list.now c.args.self.now.at (Call c.in-Call.target c.in-Call.name) nothing c.requires.place c.in-Call.is) c.requires.under_way) c.call.ensures.acts

pub returns-in-Call-clause-charged : goal.returns-in-Call-clause-charged
returns-in-Call-clause-charged c =
    on_err_both c.call.result (λ sum past. charged-at c.args.list.now (Call c.in-Call.target c.in-Call.name) c.args.self.now c.args.budget.now c.call.new.budget c.call.new.self.at
    (reads c.args.list.now c.args.self.now.at (Call c.in-Call.target c.in-Call.name) nothing c.requires.place c.in-Call.is) (omega arith) past sum) c.call.ensures.charged c.call.ensures.past
