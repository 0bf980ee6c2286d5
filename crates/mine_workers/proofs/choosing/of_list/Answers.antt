use Rattle.oeis_terms.specs.Table.{row_of}
use Rattle.std.specs.declared.option.Option.TheVariants.{Some}
use Rattle.program_store.specs.Store.{IsProposal}
use Rattle.publish_desk.specs.History.{proposal_of}
use Rattle.mine_workers.proofs.FirstAccepted.{accepted_by, refused_by, rest_more, rest_accepted, rest_none, head_chosen, tail_chosen, each_of}
use Rattle.mine_workers.proofs.choosing.of_list.Goals as goal

pub returns-then-is_accepted-clause-chosen : goal.returns-then-is_accepted-clause-chosen
returns-then-is_accepted-clause-chosen g c =
    let s = c.args.snapshot.now.store in
    let terms = row_of c.args.terms.now in
    let limit = c.args.limit in
    let first = c.in_ok-first.first in
    let told = c.in_ok-first.ensures in
    let head = c.in-Some.head.now in
    let accepts = accepted_by s terms limit first.finding c.finding.result.now head c.is_accepted.result c.is_accepted.ensures c.finding.ensures told.finding told.about c.if-is_accepted.true in
    head_chosen s terms limit c.args.list.now head c.in-Some.rest.now c.in-Some.ensures.cases.0 (proposal_of first.finding) accepts told.about

pub loop-proposal-init : goal.loop-proposal-init
loop-proposal-init g c = λ default o h. h

pub of_proposal-requires-in-loop-proposal-clause-proposal : goal.of_proposal-requires-in-loop-proposal-clause-proposal
of_proposal-requires-in-loop-proposal-clause-proposal g c =
    let each = each_of IsProposal c.args.list.now c.in-Some.head.now c.in-Some.rest.now c.in-Some.ensures.cases.0 c.requires.each in
    let at = c.loop-proposal.proposal-index in
    rw c.proposal-item.is (each.1 at c.proposal-item.result c.loop-proposal-test.true)

pub returns-then-is_accepted-2-clause-chosen : goal.returns-then-is_accepted-2-clause-chosen
returns-then-is_accepted-2-clause-chosen g c =
    let s = c.args.snapshot.now.store in
    let terms = row_of c.args.terms.now in
    let limit = c.args.limit in
    let first = c.in_ok-first.first in
    let head = c.in-Some.head.now in
    let rest = c.in-Some.rest.now in
    let refuses = refused_by s terms limit first.finding c.finding.result.now head c.is_accepted.result c.is_accepted.ensures c.finding.ensures c.in_ok-first.ensures.finding c.in_ok-first.ensures.about c.if-is_accepted.false in
    let other = c.in_ok-other.other in
    let told = c.in_ok-other.ensures in
    let item = c.proposal-item.result in
    let at = c.loop-proposal.proposal-index in
    let accepts = accepted_by s terms limit other.finding c.finding-in-loop-proposal.result.now item c.is_accepted-in-loop-proposal.result c.is_accepted-in-loop-proposal.ensures c.finding-in-loop-proposal.ensures
    told.finding told.about c.if-is_accepted-2.true in
    tail_chosen s terms limit c.args.list.now head rest c.in-Some.ensures.cases.0 (proposal_of other.finding) refuses
    (rest_accepted s terms limit (Some head) rest at (c.loop-proposal.invariant (Some head)) item c.loop-proposal-test.true c.proposal-item.is (proposal_of other.finding) accepts told.about)

pub loop-proposal-preserved : goal.loop-proposal-preserved
loop-proposal-preserved g c = λ default.
    let s = c.args.snapshot.now.store in
    let terms = row_of c.args.terms.now in
    let limit = c.args.limit in
    let rest = c.in-Some.rest.now in
    let other = c.in_ok-other.other in
    let told = c.in_ok-other.ensures in
    let item = c.proposal-item.result in
    let at = c.loop-proposal.proposal-index in
    let refuses = refused_by s terms limit other.finding c.finding-in-loop-proposal.result.now item c.is_accepted-in-loop-proposal.result c.is_accepted-in-loop-proposal.ensures c.finding-in-loop-proposal.ensures
    told.finding told.about c.if-is_accepted-2.false in
    rest_more s terms limit default rest at (c.loop-proposal.invariant default) item c.loop-proposal-test.true c.proposal-item.is refuses

pub returns-clause-chosen : goal.returns-clause-chosen
returns-clause-chosen g c =
    let s = c.args.snapshot.now.store in
    let terms = row_of c.args.terms.now in
    let limit = c.args.limit in
    let first = c.in_ok-first.first in
    let told = c.in_ok-first.ensures in
    let head = c.in-Some.head.now in
    let rest = c.in-Some.rest.now in
    let refuses = refused_by s terms limit first.finding c.finding.result.now head c.is_accepted.result c.is_accepted.ensures c.finding.ensures told.finding told.about c.if-is_accepted.false in
    tail_chosen s terms limit c.args.list.now head rest c.in-Some.ensures.cases.0 (proposal_of first.finding) refuses
    (rest_none s terms limit (Some head) rest c.loop-proposal.proposal-index (c.loop-proposal.invariant (Some head)) (proposal_of first.finding) c.loop-proposal-test.false told.about)
