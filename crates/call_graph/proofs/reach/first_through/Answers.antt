use Rattle.std.proofs.Common.{ℕ, suc, ◌<◌, ◌≤◌, ◌↔◌, sym, subst, ◌∙◌, true≢false, List, [], Contains, length, get_or, take, drop, arith}
use Rattle.std.specs.Cmp.{nat_eq_equiv}
use Rattle.std.proofs.Math.Seq.{split_at}
use Rattle.std.proofs.lemmas.List.{take_more, take_all}
use Rattle.std.proofs.lemmas.Map.Views.{Contains-from_any, list_any-from_Contains, exact_unsigned_eq}
use Rattle.loda_semantics.specs.Exec.{Library}
use Rattle.call_graph.specs.Closure.{HasCallsOf, ReachedFrom}
use Rattle.call_graph.proofs.Barren.{IsBarren, barren-first, barren-covered, barren-found, barren-more}
use Rattle.call_graph.proofs.reach.first_through.Goals as goal

pub loop-name-init : goal.loop-name-init
loop-name-init g c =
    let lib : Library = g.B.Library.programs c.args.lib.now in
    subst (λ (l : List ℕ). IsBarren lib c.args.target l []) (sym c.new-seen.ensures.empty) (barren-first lib c.args.target)

pub close-requires : goal.close-requires
close-requires g c =
    let lib : Library = g.B.Library.programs c.args.lib.now in
    let seen : List ℕ = c.loop-name.seen.keys in
    let tried : List ℕ = take c.loop-name.name-index c.deref-name-items.result.now in
    let name : ℕ = get_or c.deref-name-items.result.now c.loop-name.name-index 0 in
    let covered = subst (λ (l : List ℕ). (q : ℕ) → Contains (take (length seen) l) q → HasCallsOf lib l q) (sym c.in_ok-insert.ensures.keys)
    (barren-covered lib c.args.target seen tried c.loop-name.invariant name) in
    subst (λ (n : ℕ). (q : ℕ) → Contains (take n c.insert.new.self.keys) q → HasCallsOf lib c.insert.new.self.keys q) (sym c.len-at.ensures.len) covered

pub returns-then-contains-clause-some : goal.returns-then-contains-clause-some
returns-then-contains-clause-some g c =
    let lib : Library = g.B.Library.programs c.args.lib.now in
    let seen : List ℕ = c.loop-name.seen.keys in
    let items : List ℕ = c.deref-name-items.result.now in
    let i : ℕ = c.loop-name.name-index in
    let name : ℕ = get_or items i 0 in
    let new : List ℕ = c.close.new.names.keys in
    let lt : i < length items = omega arith in
    let reached = subst (λ (l : List ℕ). (q : ℕ) → Contains new q ↔ ReachedFrom lib l q) c.in_ok-insert.ensures.keys c.in_ok-close.ensures.reached in
    let there : Contains new c.args.target = Contains-from_any exact_unsigned_eq c.args.target new (sym c.contains.ensures ∙ c.if-contains.true) in (
      take i items,
      drop (suc i) items,
      sym c.in_ok-names.ensures ∙ sym c.deref-name-items.ensures.value ∙ split_at items i 0 lt,
      barren-found lib c.args.target seen (take i items) c.loop-name.invariant name new reached there,
      c.loop-name.invariant.without,
    )

pub loop-name-preserved : goal.loop-name-preserved
loop-name-preserved g c =
    let lib : Library = g.B.Library.programs c.args.lib.now in
    let seen : List ℕ = c.loop-name.seen.keys in
    let items : List ℕ = c.deref-name-items.result.now in
    let i : ℕ = c.loop-name.name-index in
    let name : ℕ = get_or items i 0 in
    let new : List ℕ = c.close.new.names.keys in
    let lt : i < length items = omega arith in
    let reached = subst (λ (l : List ℕ). (q : ℕ) → Contains new q ↔ ReachedFrom lib l q) c.in_ok-insert.ensures.keys c.in_ok-close.ensures.reached in
    let none = λ (there : Contains new c.args.target).
    true≢false (sym (list_any-from_Contains nat_eq_equiv c.args.target new there) ∙ sym c.contains.ensures ∙ c.if-contains.false) in
    subst (λ (l : List ℕ). IsBarren lib c.args.target new l) (sym (take_more items i 0 lt))
    (barren-more lib c.args.target seen (take i items) c.loop-name.invariant name new reached c.in_ok-close.ensures.closed none)

pub returns-clause-none : goal.returns-clause-none
returns-clause-none g c n there =
    let items : List ℕ = c.deref-name-items.result.now in
    let le : length items ≤ c.loop-name.name-index = omega arith in
    c.loop-name.invariant.without n (subst (λ (l : List ℕ). Contains l n)
    (sym c.in_ok-names.ensures ∙ sym c.deref-name-items.ensures.value ∙ sym (take_all c.loop-name.name-index items le)) there)
