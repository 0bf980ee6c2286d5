use Rattle.std.proofs.Common.{ap, sym, ◌∙◌}
use Rattle.std.specs.Ordering.{nat_cmp}
use Rattle.std.specs.FinMap.{FinMap, len}
use Rattle.program_store.specs.declared.published.Published.{Published}
use Rattle.program_store.proofs.Entries.{len-from_entries}
use Rattle.program_store.proofs.store.Store.len.Goals as goal

pub returns : goal.returns
returns c =
    c.len.ensures.len
    ∙ sym (len-from_entries c.self.inside.entries.entries c.len.ensures.ordered)
    ∙ ap (λ (m : FinMap nat_cmp Published). len m) c.self.view_is
