use Rattle.std.proofs.Common.{ℕ, ◌≡◌, ◌∙◌, sym, ap, subst, arith, length}
use Rattle.oeis_terms.specs.Table.{Table, row_of}
use Rattle.evidence.specs.declared.finding.Finding.{Finding}
use Rattle.evidence.specs.Dossiers.{Snapshot}
use Rattle.evidence.specs.Findings.{IsTrueFinding}
use Rattle.publish_desk.specs.Desk.{origin_of}
use Rattle.publish_desk.specs.History.{proposal_of}
use Rattle.publish_desk.proofs.Fitting.{fits_now}
use Rattle.publish_desk.proofs.tests.found.Goals as goal

pub returns : goal.returns
returns g c =
    let d = c.args.desk.now in
    let f = c.in_ok-dossier.dossier in
    let told = c.in_ok-dossier.ensures in
    let now : f.snapshot ≡ record { store = d.store; version = d.version; length = length d.journal } = told.snapshot ∙ c.in_ok-snapshot.ensures in
    let base : f.base ≡ d.version = told.base ∙ ap (λ (s : Snapshot). s.version) c.in_ok-snapshot.ensures in
    let store : f.snapshot.store ≡ d.store = ap (λ (s : Snapshot). s.store) now in
    let true_there : IsTrueFinding d.store (row_of c.deref.result.now) c.limit.result f.finding = subst (λ (s : Snapshot). IsTrueFinding s.store (row_of c.deref.result.now) c.limit.result f.finding) c.in_ok-snapshot.ensures told.finding in
    let true_here : IsTrueFinding d.store (row_of d.charter.terms) d.charter.limit f.finding =
    subst (λ (n : ℕ). IsTrueFinding d.store (row_of d.charter.terms) n f.finding) c.limit.ensures
    (subst (λ (t : Table). IsTrueFinding d.store (row_of t) c.limit.result f.finding) (c.deref.ensures ∙ c.terms.ensures) true_there) in
    let about = told.about in
    let proposed : origin_of d.charter f.job d.store (proposal_of f.finding) =
    subst (λ (n : ℕ). origin_of d.charter n d.store (proposal_of f.finding)) (sym told.job)
    (subst (λ (h : Finding). origin_of d.charter c.args.job d.store (proposal_of h)) (sym about.1) c.in_ok-proposal.ensures.value) in
    fits_now d f c.version.ensures.kept (let j = told.job in let l = c.requires.listed in omega (arith, j, l)) base (ap (λ (s : Snapshot). s.version) now) store true_here proposed
