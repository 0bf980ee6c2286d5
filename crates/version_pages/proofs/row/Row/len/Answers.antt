use Rattle.std.proofs.Common.{length, ap, arith}
use Rattle.version_pages.proofs.Blocks.{length-row_of_held}
use Rattle.version_pages.proofs.row.Row.len.Goals as goal

pub returns-clause-len : goal.returns-clause-len
returns-clause-len g c = omega (arith, length-row_of_held c.self.inside.blocks.items, ap length c.self.view_is)
