use Rattle.std.proofs.Common.{arith}
use Rattle.evidence.proofs.Checked.{checked_values}
use Rattle.judge.proofs.Fresh.{within_ample}
use Rattle.evidence.proofs.mended_tests.tables_of.Goals as goal

pub build-requires-clause-values : goal.build-requires-clause-values
build-requires-clause-values c = checked_values c.args.store.now _ 100000 (within_ample 100000 (omega arith)) c.in-Ok.ensures.sound
