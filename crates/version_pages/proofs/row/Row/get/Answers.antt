use Rattle.std.proofs.Common.{rules}
use Rattle.version_pages.proofs.Blocks.{place-row_of}
use Rattle.version_pages.proofs.row.Row.get.Goals as goal

pub returns-in_err-held_at : goal.returns-in_err-held_at
returns-in_err-held_at g c = rw (← c.self.view_is, place-row_of) (search rules)

pub returns : goal.returns
returns g c = rw (← c.self.view_is, place-row_of) (search rules)
