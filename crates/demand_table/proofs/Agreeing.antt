-- A table of some runs is a table of all runs of which they are a closed part.
use Rattle.std.proofs.Common.{ℕ, zero, suc, ◌+◌, ◌≤◌, arith, Contains, ◌≡◌, refl, sym, ap, subst, ◌∙◌}
use Rattle.std.specs.Prelude.{IsSome}
use Rattle.std.specs.declared.option.Option.{Option}
use Rattle.std.specs.declared.option.Option.TheVariants.{Some, None}
use Rattle.loda_semantics.specs.declared.kinds.Pair.{Pair}
use Rattle.demand_table.specs.declared.entry.Entry.{Entry}
use Rattle.demand_table.specs.Drawn.{CheckedRanges, Runs, RunCalls, ReachedAfter, IsClosed, HasNoCycle, Drawing, node_entry, IsDrawn}
use Rattle.std.specs.Option.{option_map}
use Rattle.demand_table.specs.declared.node.Node.{Node}
use Rattle.demand_table.specs.Mended.{runs_of}
use Rattle.demand_table.proofs.Counted.{some_is, same_entry}
use Rattle.demand_table.proofs.Drawings.{live_stands}

module _ (C : CheckedRanges) (R S : Runs) (closed : IsClosed C R) (part : (p : Pair) (e : Entry) → R p ≡ Some e → S p ≡ Some e) where
  pub live_up : (n : ℕ) (p : Pair) → ReachedAfter C R n p → ReachedAfter C S n p
  live_up zero p h = h
  live_up (suc n) p h = (h.0, live_up n h.0 h.1, (h.2.0, part h.0 h.2.0 h.2.1, h.2.2))

  pub live_down : (n : ℕ) (p : Pair) → ReachedAfter C S n p → ReachedAfter C R n p
  live_down zero p h = h
  live_down (suc n) p h =
      let down = live_down n h.0 h.1 in
      let there = some_is (R h.0) (live_stands C R h.0 closed (n, down)) in
      let same = same_entry (S h.0) h.2.0 there.0 h.2.1 (part h.0 there.0 there.1) in
      (h.0, down, (h.2.0, there.1 ∙ ap Some (sym same), h.2.2))

  pub drawn_agree : (D : Drawing) → IsDrawn C R D → IsDrawn C S D
  drawn_agree D d = record {
    live = λ p. (λ h. let l = (d.live p).0 h in (l.0, live_up l.0 p l.1), λ l. (d.live p).1 (l.0, live_down l.0 p l.1));
    runs = λ p n is. part p _ (d.runs p n is);
    totals = d.totals;
    callers = d.callers;
  }

-- ---- a table is that of its nodes' own runs

node_some : (o : Option Node) → IsSome o → (n : Node) × (o ≡ Some n)
node_some None h = cc
node_some (Some n) h = (n, refl)

map_some : (o : Option Node) (e : Entry) → option_map node_entry o ≡ Some e → (n : Node) × (o ≡ Some n) × (node_entry n ≡ e)
map_some None e h = cc
map_some (Some n) e h = (n, refl, cc)

module _ (C : CheckedRanges) (R : Runs) (D : Drawing) (d : IsDrawn C R D) where
  own_down : (n : ℕ) (p : Pair) → ReachedAfter C R n p → ReachedAfter C (runs_of D) n p
  own_down zero p h = h
  own_down (suc n) p h =
      let there = node_some (D h.0) ((d.live h.0).1 (n, h.1)) in
      let same = same_entry (R h.0) h.2.0 (node_entry there.0) h.2.1 (d.runs h.0 there.0 there.1) in
      (h.0, own_down n h.0 h.1, (node_entry there.0, ap (option_map node_entry) there.1, subst (λ (e : Entry). Contains e.calls p) same h.2.2))

  own_up : (n : ℕ) (p : Pair) → ReachedAfter C (runs_of D) n p → ReachedAfter C R n p
  own_up zero p h = h
  own_up (suc n) p h =
      let there = map_some (D h.0) h.2.0 h.2.1 in
      (h.0, own_up n h.0 h.1, (node_entry there.0, d.runs h.0 there.0 there.1, subst (λ (e : Entry). Contains e.calls p) (sym there.2) h.2.2))

  pub own_drawn : IsDrawn C (runs_of D) D
  own_drawn = record {
    live = λ p. (λ h. let l = (d.live p).0 h in (l.0, own_down l.0 p l.1), λ l. (d.live p).1 (l.0, own_up l.0 p l.1));
    runs = λ p n is. ap (option_map node_entry) is;
    totals = d.totals;
    callers = d.callers;
  }

-- ---- ranks leave no cycle

-- n calls lead from the one pair to the other
abbrev pub Path : Runs → ℕ → Pair → Pair → Type 0
Path R zero from to = from ≡ to
Path R (suc n) from to = (next : Pair) × RunCalls R from next × Path R n next to

module _ (R : Runs) (acyclic : HasNoCycle R) where
  falls_along : (n : ℕ) (from to : Pair) → Path R n from to → acyclic.0 to + n ≤ acyclic.0 from
  falls_along zero from to e = let f = ap acyclic.0 e in omega arith
  falls_along (suc n) from to h =
      let rest = falls_along n h.0 to h.2 in
      let step = acyclic.1 from h.0 h.1 in
      omega arith

  pub no_way_back : (n : ℕ) (p : Pair) → Path R (suc n) p p → ⊥
  no_way_back n p h = let le = falls_along (suc n) p p h in omega arith
