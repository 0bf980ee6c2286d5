use Rattle.std.proofs.Common.{◌≡◌, ◌≤◌, ◌+◌, ℕ, ℤ, List, ◌∷◌, ◌++◌, [], length, sym, ap, subst, ◌∙◌, take, drop, Bool, ◌&&◌, arith}
use Rattle.loda_syntax.specs.Programs.{Text}
use Rattle.minimiser.specs.declared.trying.Given.{Given}
use Rattle.minimiser.specs.Given.{AreGiven, is_good_for, IsGoodRun}
use Rattle.minimiser.proofs.Runs.{good_from, good_run_is, runs_more, runs_all}
use Rattle.minimiser.proofs.trying.passes_all.Goals as goal

pub loop-known-preserved : goal.loop-known-preserved
loop-known-preserved g c =
    let lib = g.B.Library.programs c.args.lib.now in
    let q = c.args.program.now in
    let given = c.args.given.now in
    let i = c.loop-known.known-index in
    let known = c.known-item.result in
    let run = c.in-Some.run' in
    let good : IsGoodRun lib q known run = rw c.in-Some.is at c.in_ok-run.ensures.run in
    record {
      same =
          sym (good_from lib q given i known c.loop-known-test.true c.known-item.is
          ∙ ap (λ (b : Bool). b && is_good_for lib (drop (i + 1) given) q) (good_run_is lib q known run good))
          ∙ c.loop-known.invariant.same;
      runs =
          subst (λ (list : List Given). (args : List ℤ) (limit : ℕ) (p : Text) → AreGiven lib args limit p given → AreGiven lib (take (i + 1) args) limit q list)
          (sym c.in_ok-push.ensures.items)
          (runs_more lib q given c.loop-known.trials.runs.items i known run c.loop-known-test.true c.known-item.is good c.loop-known.invariant.runs);
      counted = omega arith;
    }

pub returns-clause-runs : goal.returns-clause-runs
returns-clause-runs g c =
    λ yes. runs_all (g.B.Library.programs c.args.lib.now) c.args.program.now c.args.given.now c.loop-known.trials.runs.items c.loop-known.known-index (omega arith)
    c.loop-known.invariant.runs
