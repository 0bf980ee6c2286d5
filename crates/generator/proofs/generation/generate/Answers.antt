use Rattle.std.proofs.Common.{◌≡◌, ◌-◌, ◌+◌, suc, List, arith, ◌∙◌, sym, subst}
use Rattle.loda_syntax.specs.declared.instr.Instr.{Instr}
use Rattle.loda_syntax.specs.WellFormed.{IsProgram}
use Rattle.rand_core.specs.Stream.{Stream}
use Rattle.word_stream.specs.Words.{below, IsDrawnWithin}
use Rattle.generator.specs.Generating.{generated}
use Rattle.generator.proofs.Turns.{left_first, left_next, left_none}
use Rattle.generator.proofs.WordsTaken.{within-generated}
use Rattle.generator.proofs.MadeWell.{IsProgram-generated}
use Rattle.generator.proofs.generation.generate.Goals as goal

pub loop-init : goal.loop-init
loop-init g c =
    let count : 1 + c.below-count.result - 0 ≡ suc (below 8 (g.R.Rng.stream c.args.draws.now)) = omega (arith, c.below-count.ensures.value) in
    record {
      left = left_first _ _ _ _ _ c.in_ok-with_capacity.ensures.items count c.below-count.ensures.rest;
      turns = omega (arith, c.below-count.ensures.range);
      longer = omega (arith, c.in_ok-with_capacity.ensures.len);
      deeper = omega arith;
      room = c.in_ok-with_capacity.ensures.exact;
    }

pub loop-preserved : goal.loop-preserved
loop-preserved g c =
    let fewer : 1 + c.below-count.result - c.loop.counter ≡ suc (1 + c.below-count.result - (c.loop.counter + 1)) = omega arith in
    record {
      left = left_next _ _ _ _ _ _ _ _ _ _ c.loop.invariant.left fewer c.turn.ensures.list c.turn.ensures.depth c.turn.ensures.words;
      turns = omega arith;
      longer = omega arith;
      deeper = omega arith;
      room = c.turn.ensures.room ∙ c.loop.invariant.room;
    }

pub unreachable-requires : goal.unreachable-requires
unreachable-requires g c =
    let words = g.R.Rng.stream c.args.draws.now in
    let none : 1 + c.below-count.result - c.loop.counter ≡ 0 = omega arith in
    let whole = left_none _ _ _ _ _ _ c.loop.invariant.left none in
    let made : (generated c.args.names.now words).0 ≡ c.finish.result.items = sym (c.finish.ensures ∙ whole.0) in
    c.in_default.ensures.bad (subst (λ (list : List Instr). IsProgram list) made (IsProgram-generated c.args.names.now words c.requires))

pub returns-clause-program : goal.returns-clause-program
returns-clause-program g c =
    let none : 1 + c.below-count.result - c.loop.counter ≡ 0 = omega arith in
    let whole = left_none _ _ _ _ _ _ c.loop.invariant.left none in
    c.in-Ok.ensures.ok ∙ c.finish.ensures ∙ whole.0

pub returns-clause-words : goal.returns-clause-words
returns-clause-words g c =
    let none : 1 + c.below-count.result - c.loop.counter ≡ 0 = omega arith in
    let whole = left_none _ _ _ _ _ _ c.loop.invariant.left none in
    whole.1

pub returns-clause-few_words : goal.returns-clause-few_words
returns-clause-few_words g c =
    let words = g.R.Rng.stream c.args.draws.now in
    let none : 1 + c.below-count.result - c.loop.counter ≡ 0 = omega arith in
    let whole = left_none _ _ _ _ _ _ c.loop.invariant.left none in
    subst (λ (after : Stream). IsDrawnWithin 33 words after) (sym whole.1) (within-generated c.args.names.now words)
