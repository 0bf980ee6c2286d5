use Rattle.std.proofs.Common.{◌≡◌, ◌-◌, ◌+◌, suc, length, sym, ap, ◌∙◌, arith}
use Rattle.minimiser.specs.Given.{arguments}
use Rattle.minimiser.proofs.Runs.{given_all}
use Rattle.minimiser.proofs.Least.{found_step, found_here}
use Rattle.minimiser.proofs.minimising.first_good.Goals as goal

pub returns-in-Some-clause-found : goal.returns-in-Some-clause-found
returns-in-Some-clause-found g c =
    let lib = g.B.Library.programs c.args.lib.now in
    let p = c.args.program.now in
    let given = c.args.given.now in
    let place = c.loop-place.place in
    let more : length p - place ≡ suc (length p - (place + 1)) = omega (arith, ap length c.instrs-place-end.ensures.value) in
    sym (found_here lib (arguments given) c.args.limit p given place (length p - place) (length p - (place + 1)) c.in-Some.cut more
    (given_all lib c.args.limit p given c.requires) (sym c.in_ok-cut.ensures.cut ∙ c.in-Some.is))
    ∙ c.loop-place.invariant.same

pub loop-place-preserved : goal.loop-place-preserved
loop-place-preserved g c =
    let lib = g.B.Library.programs c.args.lib.now in
    let p = c.args.program.now in
    let given = c.args.given.now in
    let place = c.loop-place.place in
    let more : length p - place ≡ suc (length p - (place + 1)) = omega (arith, ap length c.instrs-place-end.ensures.value) in
    record {
      same =
          sym (found_step lib (arguments given) c.args.limit p given place (length p - place) (length p - (place + 1)) more
          (given_all lib c.args.limit p given c.requires) (sym c.in_ok-cut.ensures.cut ∙ c.in_default.is))
          ∙ c.loop-place.invariant.same;
      counted = omega arith;
    }
