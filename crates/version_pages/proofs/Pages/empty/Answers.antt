use Rattle.std.proofs.Common.{◌∙◌, ap}
use Rattle.version_pages.specs.Table.{map_of}
use Rattle.version_pages.proofs.Tables.{map_of-nil}
use Rattle.version_pages.proofs.Pages.empty.Goals as goal

pub returns : goal.returns
returns g c = ap map_of (c.in_ok-table.ensures.ok ∙ c.new.ensures) ∙ map_of-nil
