use Rattle.std.proofs.Common.{sym, subst, List, ◌∙◌}
use Rattle.oeis_terms.specs.Table.{row_of}
use Rattle.program_store.specs.Store.{Store}
use Rattle.seq_calls.specs.declared.outcomes.NodeRun.{NodeRun}
use Rattle.judge.specs.declared.answer.Answer.{Answer}
use Rattle.judge.specs.declared.answer.Answer.TheVariants.{Accepted}
use Rattle.judge.specs.Judged.{IsJudged}
use Rattle.judge.proofs.Fresh.{within_ample}
use Rattle.demand_table.specs.Replaceable.{AreRuns, IsReplaceable}
use Rattle.evidence.specs.declared.weighing.Weighed.{Weighed}
use Rattle.evidence.specs.Trials.{IsWeighed}
use Rattle.evidence.specs.Dossiers.{Dossier}
use Rattle.evidence.specs.Findings.{accepted_count, AreRunsFor, IsTrueFinding}
use Rattle.evidence.proofs.Replaceable.{replaceable}
use Rattle.evidence.proofs.gathering.gather_judged.Goals as goal

pub replaced-requires-clause-replaceable : goal.replaced-requires-clause-replaceable
replaced-requires-clause-replaceable g c =
    let k = c.in-Accepted.checked in
    let is = c.in-Accepted.is in
    let s = c.args.snapshot.now.store in
    let q = c.args.proposal.name in
    let p = c.args.proposal.program in
    let w : IsWeighed s (row_of c.args.terms.now) c.args.limit c.args.proposal c.in_ok-answer.field-0 = subst (λ (t : Store). IsWeighed t (row_of c.args.terms.now) c.args.limit c.args.proposal c.in_ok-answer.field-0) c.tables.ensures c.in_ok-answer.ensures.weighed in
    let judged : IsJudged s (row_of c.args.terms.now) c.args.limit q p (Accepted k) = subst (λ (a : Answer). IsJudged s (row_of c.args.terms.now) c.args.limit q p a) is w.answer in
    subst (λ (t : Store). IsReplaceable t q p k) (sym c.tables-in-Accepted.ensures)
    (replaceable s (row_of c.args.terms.now) c.args.limit q p k (within_ample c.args.limit c.ranges.limit.fits) c.requires.sound judged)

pub replaced-requires-clause-runs : goal.replaced-requires-clause-runs
replaced-requires-clause-runs g c =
    let k = c.in-Accepted.checked in
    let is = c.in-Accepted.is in
    let s = c.args.snapshot.now.store in
    let q = c.args.proposal.name in
    let p = c.args.proposal.program in
    let w : IsWeighed s (row_of c.args.terms.now) c.args.limit c.args.proposal c.in_ok-answer.field-0 = subst (λ (t : Store). IsWeighed t (row_of c.args.terms.now) c.args.limit c.args.proposal c.in_ok-answer.field-0) c.tables.ensures c.in_ok-answer.ensures.weighed in
    let runs : AreRuns s q p k c.in_ok-answer.field-0.runs = subst (λ (a : Answer). AreRunsFor s c.args.proposal (accepted_count a) c.in_ok-answer.field-0.runs) is w.runs in
    subst (λ (t : Store). AreRuns t q p k c.list.result.now) (sym c.tables-in-Accepted.ensures)
    (subst (λ (l : List NodeRun). AreRuns s q p k l) (sym c.list.ensures) runs)

pub returns-clause-finding : goal.returns-clause-finding
returns-clause-finding g c =
    let s = c.args.snapshot.now.store in
    let w : IsWeighed s (row_of c.args.terms.now) c.args.limit c.args.proposal c.in_ok-answer.field-0 = subst (λ (t : Store). IsWeighed t (row_of c.args.terms.now) c.args.limit c.args.proposal c.in_ok-answer.field-0) c.tables.ensures c.in_ok-answer.ensures.weighed in
    subst (λ (d : Dossier). IsTrueFinding s (row_of c.args.terms.now) c.args.limit d.finding) (sym c.of.ensures) w.answer
