use Rattle.std.proofs.Common.{◌≡◌, ◌-◌, ◌+◌, suc, List, arith, ◌∙◌, sym, subst}
use Rattle.loda_syntax.specs.declared.instr.Instr.{Instr}
use Rattle.loda_syntax.specs.WellFormed.{IsProgram}
use Rattle.rand_core.specs.Stream.{Stream}
use Rattle.word_stream.specs.Words.{below, IsDrawnWithin}
use Rattle.mutator.specs.Mutating.{mutated}
use Rattle.mutator.proofs.Changes.{left_first, left_next, left_none}
use Rattle.mutator.proofs.WordsTaken.{within-mutated}
use Rattle.mutator.proofs.KeepsProgram.{IsProgram-mutated}
use Rattle.mutator.proofs.mutation.mutate.Goals as goal

pub loop-init : goal.loop-init
loop-init g c =
    let count : 1 + c.below-count.result - 0 ≡ suc (below 3 (g.R.Rng.stream c.args.draws.now)) = omega (arith, c.below-count.ensures.value) in
    record {
      left = left_first _ _ _ _ _ _ (c.in_ok-list.ensures.items ∙ c.instrs.ensures.value) count c.below-count.ensures.rest;
      short = omega (arith, c.in_ok-list.ensures.len, c.instrs.ensures.program.short);
      room = omega (arith, c.in_ok-list.ensures.room, c.below-count.ensures.range);
    }

pub loop-preserved : goal.loop-preserved
loop-preserved g c =
    let fewer : 1 + c.below-count.result - c.loop.counter ≡ suc (1 + c.below-count.result - (c.loop.counter + 1)) = omega arith in
    record {
      left = left_next _ _ _ _ _ _ _ _ c.loop.invariant.left fewer c.change.ensures.list c.change.ensures.words;
      short = c.change.ensures.short;
      room = omega arith;
    }

pub unreachable-requires : goal.unreachable-requires
unreachable-requires g c =
    let words = g.R.Rng.stream c.args.draws.now in
    let none : 1 + c.below-count.result - c.loop.counter ≡ 0 = omega arith in
    let whole = left_none _ _ _ _ _ c.loop.invariant.left none in
    let made : (mutated c.args.names.now c.args.program.now words).0 ≡ c.loop.list.items = sym whole.0 in
    let given : IsProgram c.args.program.now = subst (λ (list : List Instr). IsProgram list) c.instrs.ensures.value c.instrs.ensures.program in
    c.in_default.ensures.bad
    (subst (λ (list : List Instr). IsProgram list) made
    (IsProgram-mutated c.args.names.now c.args.program.now words c.requires given))

pub returns-clause-few_words : goal.returns-clause-few_words
returns-clause-few_words g c =
    let words = g.R.Rng.stream c.args.draws.now in
    let none : 1 + c.below-count.result - c.loop.counter ≡ 0 = omega arith in
    let whole = left_none _ _ _ _ _ c.loop.invariant.left none in
    subst (λ (after : Stream). IsDrawnWithin 19 words after) (sym whole.1)
    (within-mutated c.args.names.now c.args.program.now words)
