use Rattle.std.proofs.Common.{◌≡◌, inl, inr, sym, subst, true, take, List, Contains, rules}
use Rattle.std.specs.Prelude.{IsSome}
use Rattle.std.proofs.lemmas.List.{take_all}
use Rattle.std.proofs.lemmas.List.Elements.{Contains-push_cases}
use Rattle.loda_semantics.specs.declared.kinds.Pair.{Pair}
use Rattle.demand_table.specs.Loaded.{slots_of}
use Rattle.demand_table.proofs.Lowering.{upto}
use Rattle.demand_table.proofs.standing.all_stand.Goals as goal

pub loop-pair-preserved : goal.loop-pair-preserved
loop-pair-preserved c = λ q at.
    let w = slots_of c.args.known.now.pages.now c.args.work.now in
    let pairs = c.args.pairs.now in
    let i = c.loop-pair.pair-index in
    let p = c.pair-item.result in
    let e = upto pairs i p c.loop-pair-test.true c.pair-item.is in
    let yes : c.stands.result ≡ true = search rules in
    elim (Contains-push_cases (take i pairs) p q (subst (λ (l : List Pair). Contains l q) e at)) [
      | inl h ↦ c.loop-pair.invariant q h
      | inr same ↦ subst (λ (r : Pair). IsSome (w r).entry) same (c.stands.ensures.0 yes)
    ]

pub returns : goal.returns
returns c = λ yes q at. c.loop-pair.invariant q (subst (λ (l : List Pair). Contains l q) (sym (take_all c.loop-pair.pair-index c.args.pairs.now c.loop-pair-test.false)) at)
