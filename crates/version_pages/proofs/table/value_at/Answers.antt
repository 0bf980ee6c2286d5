use Rattle.std.proofs.Common.{rules}
use Rattle.version_pages.proofs.Tables.{get-map_of}
use Rattle.version_pages.proofs.table.value_at.Goals as goal

pub returns-in_err-get : goal.returns-in_err-get
returns-in_err-get g c = rw get-map_of (search rules)

pub returns : goal.returns
returns g c = rw get-map_of (search rules)
