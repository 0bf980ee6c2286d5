use Rattle.std.proofs.Common.{sym}
use Rattle.judge.proofs.directory.table.Goals as goal

pub loop-name-init : goal.loop-name-init
loop-name-init g c = (
  c.in-Some.ensures.named.1,
  c.in_ok-places.ensures (g.V.Library.programs c.args.view.now) (sym c.in-Some-program.ensures),
)

pub loop-name-preserved-in-Some-program-2 : goal.loop-name-preserved-in-Some-program-2
loop-name-preserved-in-Some-program-2 g c = (
  c.in-Some-next_name.ensures.named.1,
  c.put.ensures (g.V.Library.programs c.args.view.now) c.loop-name.invariant.1 (sym c.in-Some-program-2.ensures),
)
