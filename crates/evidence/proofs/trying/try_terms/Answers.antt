use Rattle.std.proofs.Common.{ℕ, ◌≡◌, ◌≤◌, ap, ◌∙◌, arith, ◌+◌, ◌++◌, List, length, length-append}
use Rattle.seq_calls.specs.declared.outcomes.NodeRun.{NodeRun}
use Rattle.evidence.proofs.Tries.{first_runs_more, given_more, missed_here, spent_more, spent_on}
use Rattle.evidence.proofs.trying.try_terms.Goals as goal

pub returns-in_err-push-in-Some-clause-spent : goal.returns-in_err-push-in-Some-clause-spent
returns-in_err-push-in-Some-clause-spent g c =
    let h = c.loop-term.invariant in
    spent_on (g.B.Library.programs c.args.lib.now) c.args.terms.now c.args.name c.args.limit c.args.steps.now c.loop-term.steps c.evaluate.new.steps c.loop-term.index
    (omega (arith, h.0, c.loop-term-test.true)) h.2 h.4 c.in_ok-run.ensures.bounded

pub returns-in_err-append-in-Some-clause-spent : goal.returns-in_err-append-in-Some-clause-spent
returns-in_err-append-in-Some-clause-spent g c =
    let h = c.loop-term.invariant in
    spent_on (g.B.Library.programs c.args.lib.now) c.args.terms.now c.args.name c.args.limit c.args.steps.now c.loop-term.steps c.evaluate.new.steps c.loop-term.index
    (omega (arith, h.0, c.loop-term-test.true)) h.2 h.4 c.in_ok-run.ensures.bounded

pub returns-in-None-clause-miss : goal.returns-in-None-clause-miss
returns-in-None-clause-miss g c =
    let h = c.loop-term.invariant in
    missed_here (g.B.Library.programs c.args.lib.now) c.args.name c.args.limit c.loop-term.index c.loop-term.costs.items c.loop-term.runs.items c.term-item.result c.number_of.result c.in_ok-run.run'.outcome
    h.1 c.number_of.ensures c.in_ok-run.ensures.outcome c.args.terms.now c.loop-term.term-index h.0 c.loop-term-test.true c.term-item.is c.got_of.result c.got_of.ensures c.in-None.ensures.none h.2

pub loop-term-preserved : goal.loop-term-preserved
loop-term-preserved g c =
    let h = c.loop-term.invariant in
    let lib = g.B.Library.programs c.args.lib.now in
    let o = c.in_ok-run.run'.outcome in
    let t = c.term-item.result in (
      ap (λ (n : ℕ). n + 1) h.0,
      ap length c.in_ok-push-in-Some.ensures.items ∙ length-append c.loop-term.costs.items _ ∙ ap (λ (n : ℕ). n + 1) h.1,
      given_more lib c.args.name c.args.limit c.loop-term.index c.loop-term.costs.items c.loop-term.runs.items t c.number_of.result o h.1 c.number_of.ensures c.in_ok-run.ensures.outcome
          c.args.terms.now c.loop-term.term-index h.0 c.loop-term-test.true c.term-item.is c.in-Some.used c.in-Some.ensures.some h.2,
      first_runs_more lib c.args.name c.args.limit c.loop-term.index c.loop-term.costs.items c.loop-term.runs.items t c.number_of.result o h.1 c.number_of.ensures c.in_ok-run.ensures.outcome
          c.in-Some.used _ _ _ c.in-Some.ensures.some c.in_ok-push-in-Some.ensures.items c.in_ok-run.ensures.nodes (c.in_ok-append-in-Some.ensures.items ∙ ap (λ (l : List NodeRun). c.loop-term.runs.items ++ l) c.into_list.ensures) h.3,
      spent_more c.args.steps.now c.loop-term.steps c.evaluate.new.steps c.loop-term.index c.args.limit h.4 c.in_ok-run.ensures.bounded,
    )
