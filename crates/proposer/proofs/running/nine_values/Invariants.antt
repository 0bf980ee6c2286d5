use Rattle.std.proofs.Common.{◌≡◌, ◌≤◌, ◌-◌, length, take}
use Rattle.proposer.specs.Short.{values_from}
use Rattle.proposer.proofs.Values.{behind}
use Rattle.proposer.proofs.running.nine_values.Given as goal

abbrev pub invariant-loop-index : goal.invariant-loop-index
invariant-loop-index g l = record {
  size : length l.values ≡ 9;
  values_are : behind (take l.index l.values) (values_from (g.B.Library.programs l.lib) l.limit l.program l.index (9 - l.index))
      ≡ values_from (g.B.Library.programs l.lib) l.limit l.program 0 9;
  counted : l.fn.steps ≤ l.steps;
}
