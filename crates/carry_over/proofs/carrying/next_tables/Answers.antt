use Rattle.std.proofs.Common.{sym, ap, subst, ◌≡◌, ◌∙◌, List}
use Rattle.program_store.specs.Store.{Store}
use Rattle.seq_calls.specs.declared.outcomes.NodeRun.{NodeRun}
use Rattle.judge.specs.declared.answer.Answer.{Answer}
use Rattle.judge.specs.declared.answer.Answer.TheVariants.{Accepted}
use Rattle.judge.specs.Judged.{IsJudged}
use Rattle.demand_table.specs.Replaceable.{AreRuns, IsReplaceable}
use Rattle.evidence.specs.declared.finding.Finding.{Finding}
use Rattle.evidence.specs.declared.finding.Finding.TheVariants.{Judged}
use Rattle.evidence.specs.Findings.{AreItsRuns, IsTrueFinding}
use Rattle.evidence.proofs.Replaceable.{replaceable}
use Rattle.carry_over.proofs.carrying.next_tables.Goals as goal

pub replaced-requires-clause-replaceable : goal.replaced-requires-clause-replaceable
replaced-requires-clause-replaceable c =
    let s = c.args.newer.now.store in
    let p = c.in-Judged.proposal in
    let k = c.in-Accepted.checked in
    let fits = c.requires.finding in
    let is : c.args.dossier.now.finding ≡ Judged p (Accepted k) = sym c.finding.ensures ∙ c.in-Judged.is ∙ ap (λ (a : Answer). Judged p a) c.in-Accepted.is in
    let judged : IsJudged s fits.0 fits.1 p.name p.program (Accepted k) = subst (λ (f : Finding). IsTrueFinding s fits.0 fits.1 f) is fits.4 in
    subst (λ (t : Store). IsReplaceable t p.name p.program k) (sym c.tables.ensures) (replaceable s fits.0 fits.1 p.name p.program k fits.2 fits.3 judged)

pub replaced-requires-clause-runs : goal.replaced-requires-clause-runs
replaced-requires-clause-runs c =
    let s = c.args.newer.now.store in
    let p = c.in-Judged.proposal in
    let k = c.in-Accepted.checked in
    let is : c.args.dossier.now.finding ≡ Judged p (Accepted k) = sym c.finding.ensures ∙ c.in-Judged.is ∙ ap (λ (a : Answer). Judged p a) c.in-Accepted.is in
    let kept : AreRuns s p.name p.program k c.args.dossier.now.runs = subst (λ (f : Finding). AreItsRuns s f c.args.dossier.now.runs) is c.requires.runs in
    subst (λ (t : Store). AreRuns t p.name p.program k c.runs-runs.result.now) (sym c.tables.ensures)
    (subst (λ (l : List NodeRun). AreRuns s p.name p.program k l) (sym c.runs-runs.ensures.value) kept)
