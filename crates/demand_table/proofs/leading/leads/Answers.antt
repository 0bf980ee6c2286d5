use Rattle.std.proofs.Common.{ℕ, ◌≤◌, ◌≡◌, refl, sym, subst, true, false, List, Contains, length, arith}
use Rattle.loda_semantics.specs.declared.kinds.Pair.{Pair}
use Rattle.demand_table.specs.Leading.{calls_at, AddsPairs}
use Rattle.demand_table.specs.Loaded.{node_at}
use Rattle.demand_table.proofs.Leads.{IsSearching, search_starts, search_on, search_found, search_ends}
use Rattle.demand_table.proofs.leading.leads.Goals as goal

pub loop-next-init : goal.loop-next-init
loop-next-init c =
    let D = node_at c.args.known.now.pages.now in
    let old = c.args.pairs.now.items in
    let new = c.add_pairs.new.pairs.items in
    let at : c.len-next.result ≡ length old = omega arith in
    record {
      searching = subst (λ (n : ℕ). IsSearching D c.args.from c.args.to.now old new n) (sym at) (search_starts D c.args.from c.args.to.now old c.requires.barren new c.in_ok-add_pairs.ensures.adds);
      met = c.in_ok-add_pairs.ensures.met;
    }

pub loop-next-preserved : goal.loop-next-preserved
loop-next-preserved c =
    let D = node_at c.args.known.now.pages.now in
    let old = c.args.pairs.now.items in
    let pairs = c.loop-next.pairs.items in
    let new = c.add_pairs-in-loop-next.new.pairs.items in
    let p = c.index.result.now in
    let off : Contains (calls_at D p) c.args.to.now → ⊥ = λ k.
    let yes : c.has_pair.result ≡ true = c.has_pair.ensures.1 (subst (λ (l : List Pair). Contains l c.args.to.now) (sym c.calls-found.ensures) k) in
    let not : c.has_pair.result ≡ false = c.if-has_pair.false in
    cc in
    let adds : AddsPairs pairs new (calls_at D p) = subst (λ (l : List Pair). AddsPairs pairs new l) c.calls-found.ensures c.in_ok-add_pairs-2.ensures.adds in
    record {
      searching = search_on D c.args.from c.args.to.now old c.requires.barren pairs c.loop-next.next p (omega arith) c.index.ensures c.loop-next.invariant.searching new off adds;
      met = c.in_ok-add_pairs-2.ensures.met;
    }

pub returns-then-has_pair-clause-leads : goal.returns-then-has_pair-clause-leads
returns-then-has_pair-clause-leads c =
    let D = node_at c.args.known.now.pages.now in
    let p = c.index.result.now in
    let at : Contains (calls_at D p) c.args.to.now = subst (λ (l : List Pair). Contains l c.args.to.now) c.calls-found.ensures (c.has_pair.ensures.0 c.if-has_pair.true) in (
      λ yes. search_found D c.args.from c.args.to.now c.args.pairs.now.items c.requires.barren c.loop-next.pairs.items c.loop-next.next p (omega arith) c.index.ensures c.loop-next.invariant.searching at,
      λ l. refl,
    )

pub returns-clause-leads : goal.returns-clause-leads
returns-clause-leads c =
    let D = node_at c.args.known.now.pages.now in
    let le : length c.loop-next.pairs.items ≤ c.loop-next.next = omega arith in
    let ends = search_ends D c.args.from c.args.to.now c.args.pairs.now.items c.requires.barren c.loop-next.pairs.items c.loop-next.next le c.loop-next.invariant.searching in (
      λ yes. absurd (let f : false ≡ true = yes in cc),
      λ l. absurd (ends.1 l),
    )

pub returns-clause-barren : goal.returns-clause-barren
returns-clause-barren c =
    let D = node_at c.args.known.now.pages.now in
    let le : length c.loop-next.pairs.items ≤ c.loop-next.next = omega arith in
    λ no_one. (search_ends D c.args.from c.args.to.now c.args.pairs.now.items c.requires.barren c.loop-next.pairs.items c.loop-next.next le c.loop-next.invariant.searching).0
