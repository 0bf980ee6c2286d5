use Rattle.std.proofs.Common.{◌+◌, ◌-◌, ◌≤◌, vec_len, vec_capacity}
use Rattle.loda_syntax.specs.Programs.{instrs}
use Rattle.mutator.specs.Mutating.{mutated}
use Rattle.mutator.proofs.Changes.{IsLeft}
use Rattle.mutator.proofs.mutation.mutate.Given as goal
use Rattle.loda_syntax.specs.declared.instr.TheConstants.{MOST_INSTRS}

abbrev pub invariant-loop : goal.invariant-loop
invariant-loop g l = record {
  left : IsLeft (mutated l.names (instrs l.program) (g.R.Rng.stream l.fn.draws)) l.names (l.count - l.counter) l.list.items (g.R.Rng.stream l.draws);
  short : vec_len l.list ≤ MOST_INSTRS;
  room : vec_len l.list + (l.count - l.counter) ≤ vec_capacity l.list;
}
