use Rattle.std.proofs.lemmas.Result.{err_from_is_err_and}
use Rattle.program_store.specs.Headers.{candidate_header_read}
use Rattle.program_store.specs.Files.{proposal_read}
use Rattle.program_store.proofs.Sectioned.{proposal_unread, proposal_refused, proposal_whole, Answers-proposal}
use Rattle.program_store.proofs.reading.proposal_of.Goals as goal

pub returns-in_default-clause-value : goal.returns-in_default-clause-value
unfolding proposal_read
returns-in_default-clause-value c = rw c.bad.ensures (proposal_unread c.args.before _ (candidate_header_read c.args.section.header.now) c.in_default.ensures.value)

pub returns-then-before-eq-MOST_JOBS-clause-value : goal.returns-then-before-eq-MOST_JOBS-clause-value
unfolding proposal_read
returns-then-before-eq-MOST_JOBS-clause-value c =
    rw c.bad-then-before-eq-MOST_JOBS.ensures (proposal_refused c.args.before _ (candidate_header_read c.args.section.header.now) c.in-Some.name c.in-Some.ensures.value c.if-before-eq-MOST_JOBS.true)

pub returns-in_err-program-clause-value : goal.returns-in_err-program-clause-value
unfolding proposal_read
returns-in_err-program-clause-value c = let p = err_from_is_err_and c.from_residual.result c.from_residual.ensures.1 in rw (p.1, p.2)
    (Answers-proposal c.args.before _ (candidate_header_read c.args.section.header.now) c.in-Some.name c.in_err-program.field-0.0 c.in-Some.ensures.value c.if-before-eq-MOST_JOBS.false c.requires.before c.in_err-program.ensures)

pub returns-clause-value : goal.returns-clause-value
unfolding proposal_read
returns-clause-value c =
    proposal_whole c.args.before _ (candidate_header_read c.args.section.header.now) c.in-Some.name c.in_ok-program.program c.in-Some.ensures.value c.if-before-eq-MOST_JOBS.false c.requires.before c.in_ok-program.ensures
