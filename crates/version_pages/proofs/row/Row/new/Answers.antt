use Rattle.std.proofs.Common.{◌∙◌, ap}
use Rattle.version_pages.specs.Table.{held, row_of_blocks}
use Rattle.version_pages.proofs.Blocks.{row_of-nil}
use Rattle.version_pages.proofs.row.Row.new.Goals as goal

pub returns : goal.returns
returns g c = ap (λ items. row_of_blocks (held items)) c.new.ensures.items ∙ row_of-nil
