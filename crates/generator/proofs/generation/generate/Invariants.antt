use Rattle.std.proofs.Common.{◌≡◌, ◌-◌, ◌*◌, ◌≤◌, vec_len, vec_capacity}
use Rattle.generator.specs.Generating.{generated}
use Rattle.generator.proofs.Turns.{IsLeft}
use Rattle.generator.proofs.generation.generate.Given as goal

abbrev pub invariant-loop : goal.invariant-loop
invariant-loop g l = record {
  left : IsLeft (generated l.names (g.R.Rng.stream l.fn.draws)) l.draft.list.items l.names (l.count - l.counter) l.draft.depth (g.R.Rng.stream l.draws);
  turns : l.count ≤ 8;
  longer : vec_len l.draft.list ≤ 2 * l.counter;
  deeper : l.draft.depth ≤ l.counter;
  room : vec_capacity l.draft.list ≡ 24;
}
