use Rattle.std.proofs.Common.{sym, subst, List, ℕ}
use Rattle.std.specs.Ordering.{nat_cmp}
use Rattle.std.specs.FinMap.{from_entries}
use Rattle.program_store.specs.declared.published.Published.{Published}
use Rattle.program_store.specs.Store.{IsStore}
use Rattle.program_store.proofs.Entries.{IsStore-empty}
use Rattle.program_store.proofs.store.Store.empty.Goals as goal

pub invariant_of-result : goal.invariant_of-result
invariant_of-result c = subst (λ (es : List (ℕ × Published)). IsStore (from_entries {R = nat_cmp} es)) (sym c.new.ensures.empty) IsStore-empty
