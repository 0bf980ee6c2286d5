use Rattle.std.proofs.Common.{ℕ, ◌≤◌, ◌≡◌, ◌⊎◌, sym, subst, inl, inr, ap, ◌∙◌, List, [], length, nat_eq, Contains, arith}
use Rattle.std.proofs.Math.ListN.{drop_of_length-le}
use Rattle.indexmap.specs.IndexSet.{insert_all}
use Rattle.call_graph.proofs.Sets.{insert_all-has, insert_all-cases}
use Rattle.carry_over.proofs.reach.as_set.Goals as goal

pub returns : goal.returns
returns c r =
    let names : List ℕ = c.args.names.now in
    let set : List ℕ = c.loop-name.set.keys in
    let le : length names ≤ c.loop-name.name-index = omega arith in
    let all : insert_all nat_eq [] names ≡ set = c.loop-name.invariant ∙ ap (insert_all nat_eq set) (drop_of_length-le names le) in (
      λ there. by_part (insert_all-cases [] names r (subst (λ (l : List ℕ). Contains l r) (sym all) there)),
      λ there. subst (λ (l : List ℕ). Contains l r) all (insert_all-has [] names r there),
    )
  where
    by_part : Contains [] r ⊎ Contains c.args.names.now r → Contains c.args.names.now r
    by_part (inl h) = absurd (let lt = h.1 in omega (arith, lt))
    by_part (inr h) = h
