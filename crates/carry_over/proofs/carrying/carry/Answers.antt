use Rattle.std.proofs.Common.{sym, ap, subst, ◌≡◌, ◌∙◌, IfNone}
use Rattle.std.specs.declared.option.Option.{Option}
use Rattle.evidence.specs.declared.change.Change.{Change}
use Rattle.evidence.specs.Dossiers.{Dossier, Snapshot, IsDossierKept, moved_to}
use Rattle.evidence.specs.Findings.{AreItsRuns, IsTrueFinding}
use Rattle.carry_over.specs.Stores.{NoneHas}
use Rattle.carry_over.specs.Changed.{changed_names}
use Rattle.carry_over.specs.Carrying.{IsInReachOf}
use Rattle.carry_over.proofs.Findings.{true_there, runs_there}
use Rattle.carry_over.proofs.carrying.carry.Goals as goal

pub next_tables-requires-clause-finding : goal.next_tables-requires-clause-finding
next_tables-requires-clause-finding c =
    let d = c.args.dossier in
    let newer = c.args.newer.now.store in
    let fits = c.requires.fitting in
    let none = subst (λ (o : Option Change). IfNone o (NoneHas (IsInReachOf d.snapshot.store newer d.finding) (changed_names c.args.changes.now))) c.in-None.is c.in_ok-change.ensures.none in
    (fits.0, fits.1, fits.2.successor.fits, fits.2.successor.sound, true_there fits.0 fits.1 d.snapshot.store newer c.args.changes.now d.finding fits.2 none)

pub next_tables-requires-clause-runs : goal.next_tables-requires-clause-runs
next_tables-requires-clause-runs c =
    let d = c.args.dossier in
    let newer = c.args.newer.now.store in
    let fits = c.requires.fitting in
    let kept : IsDossierKept d = subst IsDossierKept c.dossier.view_is c.dossier.invariant.0 in
    let none = subst (λ (o : Option Change). IfNone o (NoneHas (IsInReachOf d.snapshot.store newer d.finding) (changed_names c.args.changes.now))) c.in-None.is c.in_ok-change.ensures.none in
    runs_there fits.0 fits.1 d.snapshot.store newer c.args.changes.now d.finding d.runs fits.2 none kept.runs

pub moved-requires-clause-finding : goal.moved-requires-clause-finding
moved-requires-clause-finding c =
    let d = c.args.dossier in
    let newer = c.args.newer.now.store in
    let fits = c.requires.fitting in
    let none = subst (λ (o : Option Change). IfNone o (NoneHas (IsInReachOf d.snapshot.store newer d.finding) (changed_names c.args.changes.now))) c.in-None.is c.in_ok-change.ensures.none in
    let found = true_there fits.0 fits.1 d.snapshot.store newer c.args.changes.now d.finding fits.2 none in (
      fits.0,
      fits.1,
      subst (λ (t : Snapshot). IsTrueFinding t.store fits.0 fits.1 c.dossier.inside.finding) (sym c.in_ok-share-in-None.ensures)
          (subst (λ (e : Dossier). IsTrueFinding newer fits.0 fits.1 e.finding) (sym c.dossier.view_is) found),
    )

pub moved-requires-clause-runs : goal.moved-requires-clause-runs
moved-requires-clause-runs c =
    let d = c.args.dossier in
    let newer = c.args.newer.now.store in
    let fits = c.requires.fitting in
    let kept : IsDossierKept d = subst IsDossierKept c.dossier.view_is c.dossier.invariant.0 in
    let none = subst (λ (o : Option Change). IfNone o (NoneHas (IsInReachOf d.snapshot.store newer d.finding) (changed_names c.args.changes.now))) c.in-None.is c.in_ok-change.ensures.none in
    let runs : AreItsRuns newer d.finding d.runs = runs_there fits.0 fits.1 d.snapshot.store newer c.args.changes.now d.finding d.runs fits.2 none kept.runs in
    subst (λ (t : Snapshot). AreItsRuns t.store c.dossier.inside.finding c.dossier.inside.runs) (sym c.in_ok-share-in-None.ensures)
    (subst (λ (e : Dossier). AreItsRuns newer e.finding e.runs) (sym c.dossier.view_is) runs)

pub returns-in_ok-share-in-None : goal.returns-in_ok-share-in-None
returns-in_ok-share-in-None c =
    let d = c.args.dossier in
    let newer = c.args.newer.now in
    let none = subst (λ (o : Option Change). IfNone o (NoneHas (IsInReachOf d.snapshot.store newer.store d.finding) (changed_names c.args.changes.now))) c.in-None.is c.in_ok-change.ensures.none in
    let same : c.moved.result ≡ moved_to d newer
    = c.moved.ensures ∙ ap (λ (e : Dossier). moved_to e c.in_ok-share-in-None.field-0) c.dossier.view_is ∙ ap (λ (t : Snapshot). moved_to d t) c.in_ok-share-in-None.ensures in
    record {
      untouched = none;
      same = same;
      finding = λ terms limit fitting. subst (λ (e : Dossier). IsTrueFinding newer.store terms limit e.finding) (sym same) (true_there terms limit d.snapshot.store newer.store c.args.changes.now d.finding fitting none);
    }
