use Rattle.std.proofs.Common.{◌≡◌, ◌≤◌, ◌<◌, ℤ, List, ◌∙◌, sym, ap, subst, refl, length, arith}
use Rattle.std.specs.Prelude.{Option, Some, None, All}
use Rattle.loda_syntax.specs.Programs.{Text}
use Rattle.minimiser.specs.declared.trying.Given.{Given}
use Rattle.minimiser.specs.Minimum.{first_good, minimum}
use Rattle.minimiser.specs.Laws.{KeepsValues}
use Rattle.minimiser.specs.Given.{IsGivenRun, arguments, AreGiven, AreRunsOf}
use Rattle.minimiser.proofs.Runs.{good_keeps, keeps_itself, keeps_on, given_all}
use Rattle.minimiser.proofs.Least.{first_at, length-first, minimum_none, minimum_some, none_good}
use Rattle.minimiser.proofs.minimising.minimise_given.Goals as goal

pub first_good-requires : goal.first_good-requires
first_good-requires g c =
    let lib = g.B.Library.programs c.args.lib.now in
    subst (λ (gs : List Given). All (IsGivenRun lib c.args.limit c.loop-trials.least) gs) (sym c.deref.ensures.value) c.loop-trials.invariant.known.each

pub loop-trials-init : goal.loop-trials-init
loop-trials-init g c =
    let lib = g.B.Library.programs c.args.lib.now in
    record {
      same = refl;
      known = given_all lib c.args.limit c.args.program c.args.given.items c.requires.given;
      keeps = keeps_itself lib (arguments c.args.given.items) c.args.limit c.args.program;
      no_longer = omega arith;
      counted = omega arith;
    }

pub returns-in-None-clause-minimum : goal.returns-in-None-clause-minimum
returns-in-None-clause-minimum g c =
    let lib = g.B.Library.programs c.args.lib.now in
    let args = arguments c.args.given.items in
    let least = c.loop-trials.least in
    let found : first_good lib args c.args.limit least ≡ None =
    ap (λ (xs : List ℤ). first_good lib xs c.args.limit least) (c.loop-trials.invariant.known.args_are ∙ ap arguments (sym c.deref.ensures.value))
    ∙ sym c.in_ok-first_good.ensures.found ∙ c.in-None.is in
    sym (minimum_none lib args c.args.limit least found) ∙ c.loop-trials.invariant.same

pub returns-in-None-clause-no_good_cut : goal.returns-in-None-clause-no_good_cut
returns-in-None-clause-no_good_cut g c =
    let lib = g.B.Library.programs c.args.lib.now in
    let args = arguments c.args.given.items in
    let least = c.loop-trials.least in
    let found : first_good lib args c.args.limit least ≡ None =
    ap (λ (xs : List ℤ). first_good lib xs c.args.limit least) (c.loop-trials.invariant.known.args_are ∙ ap arguments (sym c.deref.ensures.value))
    ∙ sym c.in_ok-first_good.ensures.found ∙ c.in-None.is in
    none_good lib args c.args.limit least found

pub loop-trials-preserved : goal.loop-trials-preserved
loop-trials-preserved g c =
    let lib = g.B.Library.programs c.args.lib.now in
    let args = arguments c.args.given.items in
    let limit = c.args.limit in
    let least = c.loop-trials.least in
    let known = c.loop-trials.invariant.known in
    let shorter = c.in-Some.shorter in
    let is : first_good lib args limit least ≡ Some shorter =
    ap (λ (xs : List ℤ). first_good lib xs limit least) (known.args_are ∙ ap arguments (sym c.deref.ensures.value))
    ∙ sym c.in_ok-first_good.ensures.found ∙ c.in-Some.is in
    let fewer = length-first lib args limit least shorter is in
    let no_longer = c.loop-trials.invariant.no_longer in
    let runs : AreRunsOf lib shorter c.deref.result.now c.first_good.new.trials.runs.items = rw c.in-Some.is at c.in_ok-first_good.ensures.runs in
    record {
      same = sym (minimum_some lib args limit least shorter is) ∙ c.loop-trials.invariant.same;
      known = rw c.swap.ensures.x_after (runs args limit least (subst (λ (gs : List Given). AreGiven lib args limit least gs) (sym c.deref.ensures.value) known));
      keeps = keeps_on lib args limit c.args.program least shorter c.loop-trials.invariant.keeps
          (good_keeps lib args limit least shorter (first_at lib args limit least shorter is).passes);
      no_longer = omega (arith, fewer, no_longer);
      counted = omega arith;
    }

pub loop-trials-smaller : goal.loop-trials-smaller
loop-trials-smaller g c =
    let lib = g.B.Library.programs c.args.lib.now in
    let args = arguments c.args.given.items in
    let least = c.loop-trials.least in
    let is : first_good lib args c.args.limit least ≡ Some c.in-Some.shorter =
    ap (λ (xs : List ℤ). first_good lib xs c.args.limit least) (c.loop-trials.invariant.known.args_are ∙ ap arguments (sym c.deref.ensures.value))
    ∙ sym c.in_ok-first_good.ensures.found ∙ c.in-Some.is in
    let fewer = length-first lib args c.args.limit least c.in-Some.shorter is in
    omega (arith, fewer)
