use Rattle.std.proofs.Common.{◌≡◌, ◌≤◌, ℤ, List, ◌∙◌, sym, ap, subst, length, arith}
use Rattle.std.specs.Prelude.{Option, None, All, IfOk}
use Rattle.loda_syntax.specs.Programs.{Text}
use Rattle.minimiser.specs.Minimum.{first_good, minimum}
use Rattle.minimiser.specs.Laws.{HasNoGoodCut, KeepsValues}
use Rattle.minimiser.specs.Given.{IsGivenRun, arguments, AreGiven}
use Rattle.minimiser.proofs.Runs.{keeps_itself}
use Rattle.minimiser.proofs.Least.{minimum_none, none_good, none_where_bad}
use Rattle.minimiser.proofs.minimising.minimise.Goals as goal

pub returns-in-None-clause-minimum : goal.returns-in-None-clause-minimum
returns-in-None-clause-minimum g c =
    let lib = g.B.Library.programs c.args.lib.now in
    let args = c.args.args.now in
    let p = c.args.program.now in
    c.in_ok-whole.ensures ∙ sym (minimum_none lib args c.args.limit p (none_where_bad lib args c.args.limit p (rw c.in-None.is at c.in_ok-given_values.ensures.given)))

pub returns-in-None-clause-no_good_cut : goal.returns-in-None-clause-no_good_cut
returns-in-None-clause-no_good_cut g c =
    let lib = g.B.Library.programs c.args.lib.now in
    let args = c.args.args.now in
    let p = c.args.program.now in
    subst (λ (q : Text). HasNoGoodCut lib args c.args.limit q) (sym c.in_ok-whole.ensures)
    (none_good lib args c.args.limit p (none_where_bad lib args c.args.limit p (rw c.in-None.is at c.in_ok-given_values.ensures.given)))

pub returns-in-None-clause-values : goal.returns-in-None-clause-values
returns-in-None-clause-values g c =
    let lib = g.B.Library.programs c.args.lib.now in
    let args = c.args.args.now in
    let p = c.args.program.now in
    subst (λ (q : Text). KeepsValues lib args c.args.limit p q) (sym c.in_ok-whole.ensures) (keeps_itself lib args c.args.limit p)

pub minimise_given-requires : goal.minimise_given-requires
minimise_given-requires g c =
    let lib = g.B.Library.programs c.args.lib.now in
    let are : AreGiven lib c.args.args.now c.args.limit c.args.program.now c.in-Some.given.items = rw c.in-Some.is at c.in_ok-given_values.ensures.given in
    record { given = subst (λ (q : Text). All (IsGivenRun lib c.args.limit q) c.in-Some.given.items) (sym c.in_ok-whole.ensures) are.each }

pub returns-clause-minimum : goal.returns-clause-minimum
returns-clause-minimum g c =
    let lib = g.B.Library.programs c.args.lib.now in
    let limit = c.args.limit in
    let are : AreGiven lib c.args.args.now limit c.args.program.now c.in-Some.given.items = rw c.in-Some.is at c.in_ok-given_values.ensures.given in
    let same : minimum lib (arguments c.in-Some.given.items) limit c.in_ok-whole.whole ≡ minimum lib c.args.args.now limit c.args.program.now =
    ap (λ (xs : List ℤ). minimum lib xs limit c.in_ok-whole.whole) (sym are.args_are) ∙ ap (minimum lib c.args.args.now limit) c.in_ok-whole.ensures in
    subst (λ (t : Text). IfOk c.minimise_given.result (λ least. least ≡ t)) same c.minimise_given.ensures.minimum

pub returns-clause-no_good_cut : goal.returns-clause-no_good_cut
returns-clause-no_good_cut g c =
    let lib = g.B.Library.programs c.args.lib.now in
    let are : AreGiven lib c.args.args.now c.args.limit c.args.program.now c.in-Some.given.items = rw c.in-Some.is at c.in_ok-given_values.ensures.given in
    subst (λ (xs : List ℤ). IfOk c.minimise_given.result (λ least. HasNoGoodCut lib xs c.args.limit least)) (sym are.args_are) c.minimise_given.ensures.no_good_cut

pub returns-clause-values : goal.returns-clause-values
returns-clause-values g c =
    let lib = g.B.Library.programs c.args.lib.now in
    let limit = c.args.limit in
    let are : AreGiven lib c.args.args.now limit c.args.program.now c.in-Some.given.items = rw c.in-Some.is at c.in_ok-given_values.ensures.given in
    subst (λ (p : Text). IfOk c.minimise_given.result (λ least. KeepsValues lib c.args.args.now limit p least)) c.in_ok-whole.ensures
    (subst (λ (xs : List ℤ). IfOk c.minimise_given.result (λ least. KeepsValues lib xs limit c.in_ok-whole.whole least)) (sym are.args_are) c.minimise_given.ensures.values)

pub returns-clause-no_longer : goal.returns-clause-no_longer
returns-clause-no_longer g c =
    subst (λ (p : Text). IfOk c.minimise_given.result (λ least. length least ≤ length p)) c.in_ok-whole.ensures c.minimise_given.ensures.no_longer
