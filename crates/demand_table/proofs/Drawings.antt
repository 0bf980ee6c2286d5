-- From a table to the slots in which it is mended, and back.
use Rattle.std.proofs.Common.{ℕ, zero, suc, ◌+◌, ◌<◌, ◌≡◌, ◌⊎◌, inl, inr, refl, sym, ap, subst, ◌∙◌, List, [], ◌∷◌, Contains, sum_by, arith}
use Rattle.std.specs.Prelude.{IsSome}
use Rattle.std.specs.declared.option.Option.{Option}
use Rattle.std.specs.declared.option.Option.TheVariants.{Some, None}
use Rattle.std.specs.Option.{unwrap_or, option_map_or}
use Rattle.std.proofs.lemmas.List.Sums.{sum_by-cons}
use Rattle.loda_semantics.specs.declared.kinds.Pair.{Pair}
use Rattle.demand_table.specs.declared.entry.Entry.{Entry}
use Rattle.demand_table.specs.declared.node.Node.{Node}
use Rattle.demand_table.specs.declared.slot.Slot.{Slot}
use Rattle.demand_table.specs.Counts.{IsCount}
use Rattle.demand_table.specs.Drawn.{CheckedRanges, Runs, IsChecked, RunCalls, ReachedAfter, IsReached, IsClosed, HasNoCycle, AreTotals, Drawing, node_entry, total_at, NodeCalls, IsDrawn}
use Rattle.demand_table.specs.Work.{Slots, runs_in, IsCounted, IsDropping, IsDropped}
use Rattle.demand_table.specs.Settling.{IsUnsettled, CanSettle}
use Rattle.demand_table.specs.Mended.{node_with, node_from, drawing_of}
use Rattle.demand_table.proofs.Counts.{cons-here, cons-more, count_same, count_one}
use Rattle.demand_table.proofs.Counted.{some_is, is_some, same_entry}
use Rattle.demand_table.proofs.Dead.{live_call}

-- sums of functions that agree on the list
pub sum_by-same : (f g : Pair → ℕ) (ps : List Pair) → ((p : Pair) → Contains ps p → f p ≡ g p) → sum_by f ps ≡ sum_by g ps
sum_by-same f g [] same = refl
sum_by-same f g (p ∷ ps) same =
    let rest = sum_by-same f g ps (λ q at. same q (cons-more p ps q at)) in
    let here = same p (cons-here p ps) in
    let a = sum_by-cons f p ps in
    let b = sum_by-cons g p ps in
    omega arith

-- ---- at the start of dropping

-- in closed runs each live pair has one
pub live_stands : (C : CheckedRanges) (R : Runs) (p : Pair) → IsClosed C R → IsReached C R p → IsSome (R p)
live_stands C R p closed live = by live.0 live.1
  where
    by : (n : ℕ) → ReachedAfter C R n p → IsSome (R p)
    by zero h = closed.checked p h
    by (suc n) h = closed.called h.0 p h.2

pub can_drop : (C : CheckedRanges) (w : Slots) (pending : List Pair) (many : ℕ) → IsClosed C (runs_in w) → IsCounted w → IsCount (λ p. IsSome (w p).entry) many
    → ((p : Pair) → IsSome (w p).entry → (w p).callers ≡ 0 → IsChecked C p ⊎ Contains pending p) → IsDropping C (runs_in w) w pending many
can_drop C w pending many closed counted count waiting = record {
  within = λ p e is. is;
  kept = λ p live. live_stands C (runs_in w) p closed live;
  counted = counted;
  waiting = waiting;
  many = count;
}

-- ---- totals of the old table that stay right

module _ (C : CheckedRanges) (R : Runs) (D : Drawing) (drawn : IsDrawn C R D) (May : ℕ → Type 0) (S : Runs) (total rank : Pair → ℕ) (sums : AreTotals S total)
    (falls : (from to : Pair) → RunCalls S from to → rank to < rank from)
    (same : (p : Pair) (n : Node) → (May p.name → ⊥) → D p ≡ Some n → S p ≡ Some (node_entry n))
    (covers : (p to : Pair) (n : Node) → D p ≡ Some n → Contains n.calls to → May to.name → May p.name) where
  node_some : (o : Option Node) → IsSome o → (n : Node) × (o ≡ Some n)
  node_some None h = cc
  node_some (Some n) h = (n, refl)

  node_is : (o : Option Node) (n : Node) → o ≡ Some n → IsSome o
  node_is None n e = cc
  node_is (Some m) n e = refl

  -- where no call can lead to the replaced name, the node's total is what it was
  total_below : (room : ℕ) (p : Pair) (n : Node) → (May p.name → ⊥) → D p ≡ Some n → rank p < room → n.total ≡ total p
  total_below zero p n off is lt = absurd (omega arith)
  total_below (suc room) p n off is lt =
      drawn.totals p n is ∙ ap (λ (k : ℕ). n.own + k) (sum_by-same (total_at D) total n.calls (λ to at.
      read to (there to at).0 (there to at).1 ∙ total_below room to (there to at).0 (λ may. off (covers p to n is at may)) (there to at).1 (let down = falls p to (call to at) in omega arith)))
      ∙ sym (sums p (node_entry n) run)
    where
      run : S p ≡ Some (node_entry n)
      run = same p n off is

      call : (to : Pair) → Contains n.calls to → RunCalls S p to
      call to at = (node_entry n, run, at)

      live : IsReached C R p
      live = (drawn.live p).0 (node_is (D p) n is)

      there : (to : Pair) → Contains n.calls to → (m : Node) × (D to ≡ Some m)
      there to at = node_some (D to) ((drawn.live to).1 (live_call C R p to live (node_entry n, drawn.runs p n is, at)))

      read : (to : Pair) (m : Node) → D to ≡ Some m → total_at D to ≡ m.total
      read to m e = ap (λ (o : Option Node). option_map_or (λ (k : Node). k.total) o 0) e

  pub total_stays : (p : Pair) (n : Node) → (May p.name → ⊥) → D p ≡ Some n → n.total ≡ total p
  total_stays p n off is = total_below (suc (rank p)) p n off is (omega arith)

-- ---- the table that the slots stand for

from_some : (p : Pair) (s : Slot) (o : Option Entry) (n : Node) → node_from p s o ≡ Some n → (e : Entry) × (o ≡ Some e) × (n ≡ node_with p s e)
from_some p s None n is = cc
from_some p s (Some e) n is = (e, refl, cc)

from_is : (p : Pair) (s : Slot) (o : Option Entry) → IsSome (node_from p s o) → IsSome o
from_is p s None h = cc
from_is p s (Some e) h = refl

from_has : (p : Pair) (s : Slot) (o : Option Entry) → IsSome o → IsSome (node_from p s o)
from_has p s None h = cc
from_has p s (Some e) h = refl

from_entry : (p : Pair) (s : Slot) (o : Option Entry) (e : Entry) → o ≡ Some e → node_from p s o ≡ Some (node_with p s e)
from_entry p s o e is = ap (node_from p s) is

total_cases : (o : Option ℕ) → (o ≡ None) ⊎ ((t : ℕ) × (o ≡ Some t))
total_cases None = inl refl
total_cases (Some t) = inr (t, refl)

module _ (C : CheckedRanges) (R : Runs) (w : Slots) (left : ℕ) (dropped : IsDropped C R w left) (can : CanSettle w) (settled : (p : Pair) → IsUnsettled w p → ⊥) where
  total_is : (p : Pair) → IsSome (w p).entry → unwrap_or (w p).total 0 ≡ can.total p
  total_is p here = by (total_cases (w p).total)
    where
      by : ((w p).total ≡ None) ⊎ ((t : ℕ) × ((w p).total ≡ Some t)) → unwrap_or (w p).total 0 ≡ can.total p
      by (inl none) = absurd (settled p (record { stands = here; unknown = none }))
      by (inr h) = ap (λ (o : Option ℕ). unwrap_or o 0) h.1 ∙ can.right p h.0 here h.1

  node_total : (p : Pair) → IsSome (w p).entry → total_at (drawing_of w) p ≡ can.total p
  node_total p here =
      let there = some_is (w p).entry here in
      ap (λ (o : Option Node). option_map_or (λ (k : Node). k.total) o 0) (from_entry p (w p) (w p).entry there.0 there.1) ∙ total_is p here

  calls_node : (from to : Pair) → RunCalls (runs_in w) from to → NodeCalls (drawing_of w) to from
  calls_node from to h = (node_with from (w from) h.0, from_entry from (w from) (w from).entry h.0 h.1, h.2)

  node_calls : (from to : Pair) → NodeCalls (drawing_of w) to from → RunCalls (runs_in w) from to
  node_calls from to h =
      let e = from_some from (w from) (w from).entry h.0 h.1 in
      (e.0, e.1, subst (λ (n : Node). Contains n.calls to) e.2 h.2)

  -- the live runs with their totals and callers are the table
  pub drawn_from : IsDrawn C R (drawing_of w)
  drawn_from = record {
    live = λ p. (λ h. dropped.live p (from_is p (w p) (w p).entry h), λ live. from_has p (w p) (w p).entry (dropped.kept p live));
    runs = λ p n is. let e = from_some p (w p) (w p).entry n is in dropped.within p e.0 e.1 ∙ ap (λ (m : Node). Some (node_entry m)) (sym e.2);
    totals = totals;
    callers = λ p n is.
        let e = from_some p (w p) (w p).entry n is in
        subst (λ (k : ℕ). IsCount (NodeCalls (drawing_of w) p) k) (sym (ap (λ (m : Node). m.callers) e.2))
        (count_same (λ from. RunCalls (runs_in w) from p) (NodeCalls (drawing_of w) p) (w p).callers (λ from h. calls_node from p h) (λ from h. node_calls from p h) (dropped.counted p));
  }
    where
      totals : (p : Pair) (n : Node) → drawing_of w p ≡ Some n → n.total ≡ n.own + sum_by (total_at (drawing_of w)) n.calls
      totals p n is =
          let e = from_some p (w p) (w p).entry n is in
          let here : IsSome (w p).entry = is_some (w p).entry e.0 e.1 in
          let sum : sum_by (total_at (drawing_of w)) e.0.calls ≡ sum_by can.total e.0.calls =
          sum_by-same (total_at (drawing_of w)) can.total e.0.calls (λ to at. node_total to (can.closed p to (e.0, e.1, at))) in
          let all : unwrap_or (w p).total 0 ≡ e.0.own + sum_by (total_at (drawing_of w)) e.0.calls =
          total_is p here ∙ can.sums p e.0 e.1 ∙ ap (λ (k : ℕ). e.0.own + k) (sym sum) in
          subst (λ (m : Node). m.total ≡ m.own + sum_by (total_at (drawing_of w)) m.calls) (sym e.2) all

-- ---- one table

-- two tables of the same checks and runs are equal at each pair
module _ (C : CheckedRanges) (R : Runs) (acyclic : HasNoCycle R) (closed : IsClosed C R) (D E : Drawing) (d : IsDrawn C R D) (e : IsDrawn C R E) where
  cases : (F : Drawing) (p : Pair) → (F p ≡ None) ⊎ ((n : Node) × (F p ≡ Some n))
  cases F p = by (F p)
    where
      by : (o : Option Node) → (o ≡ None) ⊎ ((n : Node) × (o ≡ Some n))
      by None = inl refl
      by (Some n) = inr (n, refl)

  is_node : (o : Option Node) (n : Node) → o ≡ Some n → IsSome o
  is_node None n h = cc
  is_node (Some m) n h = refl

  no_node : (o : Option Node) → o ≡ None → IsSome o → ⊥
  no_node None h k = cc
  no_node (Some m) h k = cc

  pub entries : (p : Pair) (n m : Node) → D p ≡ Some n → E p ≡ Some m → node_entry n ≡ node_entry m
  entries p n m a b = same_entry (R p) (node_entry n) (node_entry m) (d.runs p n a) (e.runs p m b)

  total_one : (room : ℕ) (p : Pair) (n m : Node) → D p ≡ Some n → E p ≡ Some m → acyclic.0 p < room → n.total ≡ m.total
  total_one zero p n m a b lt = absurd (omega arith)
  total_one (suc room) p n m a b lt =
      d.totals p n a ∙ ap (λ (k : ℕ). n.own + k) (sum_by-same (total_at D) (total_at E) n.calls (λ to at.
      by to at (cases D to) (cases E to) (λ x y f g. total_one room to x y f g (let down = acyclic.1 p to (node_entry n, d.runs p n a, at) in omega arith))))
      ∙ ap (λ (x : Entry). x.own + sum_by (total_at E) x.calls) (entries p n m a b) ∙ sym (e.totals p m b)
    where
      live : IsReached C R p
      live = (d.live p).0 (is_node (D p) n a)

      called : (to : Pair) → Contains n.calls to → IsReached C R to
      called to at = live_call C R p to live (node_entry n, d.runs p n a, at)

      read : (F : Drawing) (to : Pair) (x : Node) → F to ≡ Some x → total_at F to ≡ x.total
      read F to x f = ap (λ (o : Option Node). option_map_or (λ (k : Node). k.total) o 0) f

      by : (to : Pair) → Contains n.calls to → (D to ≡ None) ⊎ ((x : Node) × (D to ≡ Some x)) → (E to ≡ None) ⊎ ((y : Node) × (E to ≡ Some y))
          → ((x y : Node) → D to ≡ Some x → E to ≡ Some y → x.total ≡ y.total) → total_at D to ≡ total_at E to
      by to at (inl none) other same = absurd (no_node (D to) none ((d.live to).1 (called to at)))
      by to at (inr x) (inl none) same = absurd (no_node (E to) none ((e.live to).1 (called to at)))
      by to at (inr x) (inr y) same = read D to x.0 x.1 ∙ same x.0 y.0 x.1 y.1 ∙ sym (read E to y.0 y.1)

  calls_to : (F G : Drawing) → IsDrawn C R F → IsDrawn C R G → (p from : Pair) → NodeCalls F p from → NodeCalls G p from
  calls_to F G f g p from h = by (cases G from)
    where
      by : (G from ≡ None) ⊎ ((m : Node) × (G from ≡ Some m)) → NodeCalls G p from
      by (inl none) = absurd (no_node (G from) none ((g.live from).1 ((f.live from).0 (is_node (F from) h.0 h.1))))
      by (inr m) =
          let same : node_entry h.0 ≡ node_entry m.0 = same_entry (R from) (node_entry h.0) (node_entry m.0) (f.runs from h.0 h.1) (g.runs from m.0 m.1) in
          (m.0, m.1, subst (λ (x : Entry). Contains x.calls p) same h.2)

  pub callers_one : (p : Pair) (n m : Node) → D p ≡ Some n → E p ≡ Some m → n.callers ≡ m.callers
  callers_one p n m a b =
      count_one (NodeCalls E p) n.callers m.callers
      (count_same (NodeCalls D p) (NodeCalls E p) n.callers (λ from h. calls_to D E d e p from h) (λ from h. calls_to E D e d p from h) (d.callers p n a))
      (e.callers p m b)

  pub total_same : (p : Pair) (n m : Node) → D p ≡ Some n → E p ≡ Some m → n.total ≡ m.total
  total_same p n m a b = total_one (suc (acyclic.0 p)) p n m a b (omega arith)

  pub same_live : (p : Pair) → IsSome (D p) → IsSome (E p)
  same_live p h = (e.live p).1 ((d.live p).0 h)
