use Rattle.version_pages.proofs.Tables.{map_of-HasNamesOnly}
use Rattle.version_pages.proofs.Pages.get.Goals as goal

pub returns-clause-names : goal.returns-clause-names
returns-clause-names g c = rw (← c.self.view_is) (map_of-HasNamesOnly _ c.self.invariant.0 c.self.invariant.1)
