use Rattle.std.proofs.Common.{ap, ◌+◌, ℕ}
use Rattle.std.specs.Prelude.{◌≡◌}
use Rattle.judge.specs.declared.answer.Got.{Got}
use Rattle.judge.specs.declared.answer.Got.TheVariants as got
use Rattle.judge.specs.Misses.{got_told}
use Rattle.judge.proofs.Misses.{term_read, matched_none, passes_next, misses_here}
use Rattle.judge.proofs.passing.first_miss.Goals as goal

pub returns-in-Some : goal.returns-in-Some
returns-in-Some g c =
    let t = c.term-item.result in
    misses_here (g.B.Library.programs c.args.lib.now) c.args.terms.now c.args.name c.args.limit c.loop-term.index t c.number_of.result c.in_ok-outcome.outcome
    (term_read c.args.terms.now c.loop-term.index c.loop-term.term-index t c.loop-term.invariant.0 c.loop-term-test.true c.term-item.is)
    c.number_of.ensures c.in_ok-outcome.ensures
    c.in-Some.got c.in-Some.ensures.0 c.in-Some.ensures.1 c.loop-term.invariant.1

pub loop-term-preserved : goal.loop-term-preserved
loop-term-preserved g c =
    let t = c.term-item.result in
    let o = c.in_ok-outcome.outcome in (
      ap (λ (n : ℕ). n + 1) c.loop-term.invariant.0,
      passes_next (g.B.Library.programs c.args.lib.now) c.args.terms.now c.args.name c.args.limit c.loop-term.index t c.number_of.result o
          (term_read c.args.terms.now c.loop-term.index c.loop-term.term-index t c.loop-term.invariant.0 c.loop-term-test.true c.term-item.is)
          c.number_of.ensures c.in_ok-outcome.ensures
          (matched_none c.missed.result (got_told o ≡ got.Value t) (λ (h : Got). (h ≡ got_told o) × (h ≡ got.Value t → ⊥)) c.in_default.is c.missed.ensures) c.loop-term.invariant.1,
    )
