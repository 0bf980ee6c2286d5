use Rattle.std.proofs.Common.{ℕ, ◌≡◌, sym, subst, ◌∙◌, List, Contains, nat_eq}
use Rattle.std.specs.Cmp.{nat_eq_equiv}
use Rattle.std.specs.List.{IsDistinct}
use Rattle.std.specs.List.Sorted.{IsNonDecreasing}
use Rattle.std.proofs.lemmas.List.Sorted.{Contains-permutation, IsPermutation-sym, IsNonDecreasingBy-from_sort}
use Rattle.std.proofs.lemmas.Map.Keys.{IsStrictlyIncreasing-from_distinct, IsDistinct-IsPermutation}
use Rattle.call_graph.proofs.reach.ascending.Goals as goal

pub returns-clause-ascending : goal.returns-clause-ascending
returns-clause-ascending c =
    let up : IsNonDecreasing c.sort.new.self.items = IsNonDecreasingBy-from_sort (λ x. x) c.sort.new.self.items c.in_ok-sort.ensures.sorted in
    let e : c.in_ok-sorted.sorted.items ≡ c.args.names.now.keys = c.in_ok-sorted.ensures.items ∙ c.as_slice.ensures.keys in
    let apart : IsDistinct nat_eq c.in_ok-sorted.sorted.items = subst (λ (l : List ℕ). IsDistinct nat_eq l) (sym e) c.as_slice.ensures.unique in
    IsStrictlyIncreasing-from_distinct c.sort.new.self.items up
    (IsDistinct-IsPermutation nat_eq nat_eq_equiv.symm c.in_ok-sorted.sorted.items c.sort.new.self.items c.in_ok-sort.ensures.permutation apart)

pub returns-clause-exact : goal.returns-clause-exact
returns-clause-exact c q =
    let list : List ℕ = c.in_ok-sorted.sorted.items in
    let sorted : List ℕ = c.sort.new.self.items in
    let e : list ≡ c.args.names.now.keys = c.in_ok-sorted.ensures.items ∙ c.as_slice.ensures.keys in (
      λ there. subst (λ (l : List ℕ). Contains l q) e (Contains-permutation sorted list q (IsPermutation-sym list sorted c.in_ok-sort.ensures.permutation) there),
      λ there. Contains-permutation list sorted q c.in_ok-sort.ensures.permutation (subst (λ (l : List ℕ). Contains l q) (sym e) there),
    )
