use Rattle.std.proofs.Common.{sym, subst, ◌≡◌, ◌∙◌, IfSome, IfNone}
use Rattle.std.specs.Prelude.{IfOk}
use Rattle.evidence.specs.declared.finding.Finding.{Finding}
use Rattle.evidence.specs.declared.finding.Finding.TheVariants.{Judged}
use Rattle.evidence.specs.Dossiers.{Snapshot}
use Rattle.carry_over.specs.Stores.{NoneHas}
use Rattle.carry_over.specs.Changed.{changed_names, IsFirstTouched}
use Rattle.carry_over.specs.Carrying.{IsInReachOf}
use Rattle.carry_over.proofs.carrying.first_change.Goals as goal

pub returns-in-Judged-clause-some : goal.returns-in-Judged-clause-some
returns-in-Judged-clause-some c =
    let newer = c.args.newer.now.store in
    let is : Judged c.in-Judged.proposal c.in-Judged.answer ≡ c.args.dossier.now.finding = sym c.in-Judged.is ∙ c.finding.ensures in
    subst (λ (t : Snapshot). IfOk c.first_touched.result (λ found. IfSome found (IsFirstTouched (IsInReachOf t.store newer c.args.dossier.now.finding) c.args.changes.now))) c.snapshot.ensures
    (subst (λ (f : Finding). IfOk c.first_touched.result (λ found. IfSome found (IsFirstTouched (IsInReachOf c.snapshot.result.now.store newer f) c.args.changes.now))) is c.first_touched.ensures.some)

pub returns-in-Judged-clause-none : goal.returns-in-Judged-clause-none
returns-in-Judged-clause-none c =
    let newer = c.args.newer.now.store in
    let is : Judged c.in-Judged.proposal c.in-Judged.answer ≡ c.args.dossier.now.finding = sym c.in-Judged.is ∙ c.finding.ensures in
    subst (λ (t : Snapshot). IfOk c.first_touched.result (λ found. IfNone found (NoneHas (IsInReachOf t.store newer c.args.dossier.now.finding) (changed_names c.args.changes.now)))) c.snapshot.ensures
    (subst (λ (f : Finding). IfOk c.first_touched.result (λ found. IfNone found (NoneHas (IsInReachOf c.snapshot.result.now.store newer f) (changed_names c.args.changes.now)))) is c.first_touched.ensures.none)
