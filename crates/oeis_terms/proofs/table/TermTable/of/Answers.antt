use Rattle.std.proofs.Common.{List, ap, rules}
use Rattle.std.proofs.lemmas.List.Sorted.{IsNonDecreasingBy-from_sort_by_key, All-permutation}
use Rattle.oeis_terms.specs.Table.{Row, Table, IsRow, HasAscendingNames}
use Rattle.oeis_terms.proofs.Sorting.{NamesDiffer-permutation, ascending_sorted, sorted_is_by_name}
use Rattle.oeis_terms.proofs.table.TermTable.of.Goals as goal

ascending : (c : goal.After-sort_unstable_by_key) → HasAscendingNames c.sort_unstable_by_key.new.self.items
ascending c =
    let perm = c.sort_unstable_by_key.ensures.permutation in
    ascending_sorted _ (IsNonDecreasingBy-from_sort_by_key (λ (r : Row). r.0) _ c.sort_unstable_by_key.ensures.sorted (λ a r q k. search rules)) (NamesDiffer-permutation _ _ perm c.requires.names)

pub invariant_of-result : goal.invariant_of-result
invariant_of-result c = record { ascending = ascending c; rows = All-permutation IsRow _ _ c.sort_unstable_by_key.ensures.permutation c.requires.rows }

pub returns : goal.returns
returns c = ap (λ (rows : List Row). let t : Table = record { rows = rows; skipped = c.args.skipped } in t) (sorted_is_by_name _ _ c.sort_unstable_by_key.ensures.permutation (ascending c) c.requires.names)
