use Rattle.std.proofs.Common.{ℕ, ◌≡◌, sym, ap, subst, ◌∙◌, List}
use Rattle.oeis_terms.specs.Table.{row_of}
use Rattle.program_store.specs.Store.{Store}
use Rattle.seq_calls.specs.declared.outcomes.NodeRun.{NodeRun}
use Rattle.judge.specs.declared.answer.Answer.{Answer}
use Rattle.judge.specs.declared.answer.Answer.TheVariants.{Accepted}
use Rattle.judge.proofs.Fresh.{within_ample}
use Rattle.demand_table.specs.Loaded.{node_at}
use Rattle.demand_table.specs.Table.{checks_in_store, IsDemandTable}
use Rattle.evidence.specs.declared.finding.Finding.{Finding}
use Rattle.evidence.specs.declared.finding.Finding.TheVariants.{Judged}
use Rattle.evidence.specs.Dossiers.{Snapshot}
use Rattle.evidence.specs.Findings.{AreItsRuns, IsTrueFinding}
use Rattle.evidence.proofs.FramesFit.{frames_fit}
use Rattle.evidence.proofs.mended_tests.mended_by_frames.Goals as goal

pub replaced-requires-clause-fits : goal.replaced-requires-clause-fits
replaced-requires-clause-fits c =
    let d = c.args.dossier.now in
    let s = d.snapshot.store in
    let terms = row_of c.args.terms.now in
    let proposal = c.in-Judged.proposal in
    let checked = c.in-Accepted.checked in
    let folders = c.demand-demand.result.now in
    let frames = c.runs-frames.result.now in
    let found : d.finding ≡ Judged proposal (Accepted checked) = sym c.finding.ensures ∙ c.in-Judged.is ∙ ap (λ (a : Answer). Judged proposal a) c.in-Accepted.is in
    let there : c.tables.result.now ≡ s = c.tables.ensures ∙ ap (λ (x : Snapshot). x.store) c.snapshot.ensures in
    let kept : AreItsRuns s d.finding frames = subst (λ (l : List NodeRun). AreItsRuns s d.finding l) (sym c.runs-frames.ensures.value) c.runs-frames.ensures.kept.runs in
    frames_fit s terms c.args.limit (within_ample c.args.limit c.ranges.limit.fits) c.requires.sound folders
    (λ name. c.demand-demand.ensures.checks name ∙ ap (λ (t : Store). checks_in_store t name) there)
    (subst (λ (t : Store). IsDemandTable t (node_at folders)) there c.demand-demand.ensures.table) proposal.name proposal.program checked
    (subst (λ (f : Finding). IsTrueFinding s terms c.args.limit f) found c.requires.finding) frames
    (subst (λ (f : Finding). AreItsRuns s f frames) found kept)
