use Rattle.std.proofs.Common.{◌≡◌, ◌-◌, ◌+◌, suc, sym, ◌∙◌, take, arith}
use Rattle.std.proofs.Math.ListN.{length-set}
use Rattle.proposer.specs.Short.{values_from}
use Rattle.proposer.proofs.Values.{values_next, values_missing, values_all}
use Rattle.proposer.proofs.running.nine_values.Goals as goal

pub returns-in_default : goal.returns-in_default
returns-in_default g c =
    let lib = g.B.Library.programs c.args.lib.now in
    let limit = c.args.limit in
    let p = c.args.program.now in
    let k = c.loop-index.index in
    let more : 9 - k ≡ suc (9 - (k + 1)) = omega arith in
    record {
      values = values_missing lib limit p k (9 - k) (9 - (k + 1)) (take k c.loop-index.values) c.number_of.result c.in_ok-outcome.outcome (values_from lib limit p 0 9)
          c.number_of.ensures more (sym c.in_ok-outcome.ensures.outcome) (λ v n e. c.in_default.not-Value v n e) c.loop-index.invariant.values_are;
      counted = omega arith;
    }

pub loop-index-preserved : goal.loop-index-preserved
loop-index-preserved g c =
    let lib = g.B.Library.programs c.args.lib.now in
    let limit = c.args.limit in
    let p = c.args.program.now in
    let k = c.loop-index.index in
    let more : 9 - k ≡ suc (9 - (k + 1)) = omega arith in
    record {
      size = length-set c.loop-index.values k c.in-Value.value ∙ c.loop-index.invariant.size;
      values_are = values_next lib limit p k (9 - k) (9 - (k + 1)) c.loop-index.values c.number_of.result c.in-Value.value c.in-Value.steps (values_from lib limit p 0 9)
          c.number_of.ensures more (omega arith) (sym c.in_ok-outcome.ensures.outcome ∙ c.in-Value.is) c.loop-index.invariant.values_are;
      counted = omega arith;
    }

pub returns-clause-values : goal.returns-clause-values
returns-clause-values g c =
    values_all (g.B.Library.programs c.args.lib.now) c.args.limit c.args.program.now c.loop-index.index (9 - c.loop-index.index) c.loop-index.values
    (values_from (g.B.Library.programs c.args.lib.now) c.args.limit c.args.program.now 0 9) (omega arith) (omega arith) c.loop-index.invariant.values_are
