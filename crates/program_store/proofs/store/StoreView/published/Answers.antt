use Rattle.std.proofs.Common.{◌∙◌}
use Rattle.program_store.proofs.Entries.{get-viewed}
use Rattle.program_store.proofs.store.StoreView.published.Goals as goal

pub returns-clause-value : goal.returns-clause-value
returns-clause-value c = c.get.ensures.value ∙ get-viewed c.self.inside.entries.entries c.args.self.now c.args.name c.self.view_is
