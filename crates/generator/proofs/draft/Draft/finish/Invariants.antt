use Rattle.std.proofs.Common.{◌≡◌, ◌+◌, ◌++◌, replicate, vec_len, vec_capacity}
use Rattle.loda_syntax.specs.declared.instr.Instr.TheVariants.{LoopEnd}
use Rattle.generator.proofs.draft.Draft.finish.Given as goal

abbrev pub invariant-loop : goal.invariant-loop
invariant-loop l = record {
  added : l.list.items ≡ l.initial.list.items ++ replicate l.counter LoopEnd;
  longer : vec_len l.list ≡ vec_len l.initial.list + l.counter;
  room : vec_capacity l.list ≡ vec_capacity l.initial.list;
}
