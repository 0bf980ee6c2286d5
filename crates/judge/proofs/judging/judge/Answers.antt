use Rattle.oeis_terms.specs.Table.{row_of}
use Rattle.judge.proofs.Fresh.{kept}
use Rattle.judge.proofs.OneAnswer.{one_answer}
use Rattle.judge.proofs.judging.judge.Goals as goal

pub returns-in_err-answer-clause-one : goal.returns-in_err-answer-clause-one
returns-in_err-answer-clause-one g c = one_answer (g.V.View.store c.args.view.now) (row_of c.args.terms.now) c.args.limit c.args.proposal.now.name c.args.proposal.now.program

pub returns-clause-one : goal.returns-clause-one
returns-clause-one g c = one_answer (g.V.View.store c.args.view.now) (row_of c.args.terms.now) c.args.limit c.args.proposal.now.name c.args.proposal.now.program

pub returns-clause-kept : goal.returns-clause-kept
returns-clause-kept g c =
    kept (g.V.View.store c.args.view.now) c.args.terms.now c.args.limit c.args.proposal.now.name c.args.proposal.now.program c.in_ok-answer.answer
    c.ranges.limit.fits c.in_ok-answer.ensures.table c.requires.sound c.in_ok-answer.ensures.judged
