-- The stages of mending, one after the other: from the old table to slots that can be dropped from, settled and drawn.
use Rattle.std.proofs.Common.{ℕ, zero, suc, ◌≡◌, ◌⊎◌, inl, inr, refl, sym, ap, subst, ◌∙◌, Bool, true, false, ◌==◌, List, [], ◌∷◌, Contains, if◌then◌else◌}
use Rattle.std.specs.Prelude.{IsSome}
use Rattle.std.specs.Option.{option_map}
use Rattle.std.specs.declared.option.Option.{Option}
use Rattle.std.specs.declared.option.Option.TheVariants.{Some, None}
use Rattle.std.proofs.lemmas.Bool.{cases_eq}
use Rattle.std.proofs.lemmas.Bool.Decides.{Decides-eqb}
use Rattle.loda_semantics.specs.declared.kinds.Pair.{Pair}
use Rattle.seq_calls.specs.declared.outcomes.NodeRun.{NodeRun}
use Rattle.demand_table.specs.declared.range.Range.{Range}
use Rattle.demand_table.specs.declared.entry.Entry.{Entry}
use Rattle.demand_table.specs.declared.node.Node.{Node}
use Rattle.demand_table.specs.declared.slot.Slot.{Slot}
use Rattle.demand_table.specs.Counts.{IsCount}
use Rattle.demand_table.specs.Drawn.{CheckedRanges, Runs, with_range, IsChecked, RunCalls, ReachedAfter, IsReached, IsClosed, Drawing, node_entry, NodeCalls, IsDrawn}
use Rattle.std.proofs.Common.{ℤ}
use Rattle.std.specs.Ordering.{nat_cmp, is_eq}
use Rattle.std.specs.Map.{lookup}
use Rattle.std.specs.BTreeMap as tree
use Rattle.std.specs.BTreeMap.{BTreeMap}
use Rattle.demand_table.specs.declared.work.Work.{Work}
use Rattle.demand_table.proofs.Loaded.{in_name}
use Rattle.demand_table.specs.Loaded.{slot_of, slot_or, slots_of, node_at, Folders}
use Rattle.demand_table.specs.Work.{Slots, runs_in, IsCounted, IsDropping, IsDropped, KeepsTotals}
use Rattle.demand_table.specs.Settling.{IsUnsettled, CanSettle}
use Rattle.demand_table.specs.Mended.{run_of, run_at, either, apart_from, mended, runs_of, Fits, node_from, drawing_of}
use Rattle.demand_table.specs.Mending.{IsMending, IsCleared, IsForgotten, IsForgetting}
use Rattle.demand_table.proofs.Counts.{nil-cases, cons-here, cons-more, count_same, none_of_zero}
use Rattle.demand_table.proofs.Counted.{none_is_some, some_is, is_some}
use Rattle.demand_table.proofs.Dead.{live_call}
use Rattle.demand_table.proofs.Drawings.{can_drop, total_stays}
use Rattle.demand_table.proofs.Placing.{same_pair, same_of}

-- ---- options

pub map_some : (o : Option Node) (e : Entry) → option_map node_entry o ≡ Some e → (n : Node) × (o ≡ Some n) × (node_entry n ≡ e)
map_some None e h = cc
map_some (Some n) e h = (n, refl, cc)

node_cases : (o : Option Node) → (o ≡ None) ⊎ ((n : Node) × (o ≡ Some n))
node_cases None = inl refl
node_cases (Some n) = inr (n, refl)

entry_cases : (o : Option Entry) → (o ≡ None) ⊎ ((e : Entry) × (o ≡ Some e))
entry_cases None = inl refl
entry_cases (Some e) = inr (e, refl)

total_cases : (o : Option ℕ) → (o ≡ None) ⊎ ((t : ℕ) × (o ≡ Some t))
total_cases None = inl refl
total_cases (Some t) = inr (t, refl)

has_node : (o : Option Node) (n : Node) → o ≡ Some n → IsSome o
has_node None n h = cc
has_node (Some m) n h = refl

no_node : (o : Option Node) → o ≡ None → IsSome o → ⊥
no_node None h k = cc
no_node (Some m) h k = cc

slot_entry : (o : Option Node) → (slot_of o).entry ≡ option_map node_entry o
slot_entry None = refl
slot_entry (Some n) = refl

-- the frame that a list has of a pair
pub frame_at : (rs : List NodeRun) (p : Pair) (e : Entry) → run_at rs p ≡ Some e → (r : NodeRun) × Contains rs r × (r.pair ≡ p) × (run_of r ≡ e)
frame_at [] p e h = cc
frame_at (r ∷ rs) p e h = by (same_pair r.pair p) refl h (frame_at rs p e)
  where
    by : (b : Bool) → same_pair r.pair p ≡ b → (if b then Some (run_of r) else run_at rs p) ≡ Some e → (run_at rs p ≡ Some e → (k : NodeRun) × Contains rs k × (k.pair ≡ p) × (run_of k ≡ e))
        → (k : NodeRun) × Contains (r ∷ rs) k × (k.pair ≡ p) × (run_of k ≡ e)
    by true f h rest = (r, cons-here r rs, same_of r.pair p f, cc)
    by false f h rest = let k = rest h in (k.0, cons-more r rs k.0 k.1, k.2, k.3)

module _ (C : CheckedRanges) (D : Drawing) (drawn : IsDrawn C (runs_of D) D) (w0 : Slots) (fresh : (p : Pair) → w0 p ≡ slot_of (D p)) where
  first_entry : (p : Pair) → (w0 p).entry ≡ runs_of D p
  first_entry p = ap (λ (s : Slot). s.entry) (fresh p) ∙ slot_entry (D p)

  first_total : (p : Pair) (n : Node) → D p ≡ Some n → (w0 p).total ≡ Some n.total
  first_total p n e = ap (λ (s : Slot). s.total) (fresh p) ∙ ap (λ (o : Option Node). (slot_of o).total) e

  first_callers : (p : Pair) (o : Option Node) → D p ≡ o → (w0 p).callers ≡ (slot_of o).callers
  first_callers p o e = ap (λ (s : Slot). s.callers) (fresh p) ∙ ap (λ (o : Option Node). (slot_of o).callers) e

  to_node : (from to : Pair) → RunCalls (runs_in w0) from to → NodeCalls D to from
  to_node from to h =
      let n = map_some (D from) h.0 (sym (first_entry from) ∙ h.1) in
      (n.0, n.1, subst (λ (e : Entry). Contains e.calls to) (sym n.2) h.2)

  from_node : (from to : Pair) → NodeCalls D to from → RunCalls (runs_in w0) from to
  from_node from to h = (node_entry h.0, first_entry from ∙ ap (option_map node_entry) h.1, h.2)

  node_live : (p : Pair) (n : Node) → D p ≡ Some n → IsReached C (runs_of D) p
  node_live p n e = (drawn.live p).0 (has_node (D p) n e)

  -- the old numbers of callers are right for all pairs
  pub counted_first : IsCounted w0
  counted_first p = by (node_cases (D p))
    where
      called : (from : Pair) → NodeCalls D p from → IsSome (D p)
      called from h = (drawn.live p).1 (live_call C (runs_of D) from p (node_live from h.0 h.1) (node_entry h.0, ap (option_map node_entry) h.1, h.2))

      by : (D p ≡ None) ⊎ ((n : Node) × (D p ≡ Some n)) → IsCount (λ from. RunCalls (runs_in w0) from p) (w0 p).callers
      by (inr n) =
          subst (λ (k : ℕ). IsCount (λ from. RunCalls (runs_in w0) from p) k) (sym (first_callers p (Some n.0) n.1))
          (count_same (NodeCalls D p) (λ from. RunCalls (runs_in w0) from p) n.0.callers (λ from h. from_node from p h) (λ from h. to_node from p h) (drawn.callers p n.0 n.1))
      by (inl none) =
          subst (λ (k : ℕ). IsCount (λ from. RunCalls (runs_in w0) from p) k) (sym (first_callers p None none)) (record {
            things = [];
            differ = tt;
            exact = λ from. (λ h. absurd (no_node (D p) none (called from (to_node from p h))), λ at. absurd (nil-cases from at));
            count = refl;
          })

  -- a node that nobody calls is checked
  uncalled : (p : Pair) (n : Node) → D p ≡ Some n → (w0 p).callers ≡ 0 → IsChecked C p
  uncalled p n e none = by (node_live p n e).0 (node_live p n e).1
    where
      by : (k : ℕ) → ReachedAfter C (runs_of D) k p → IsChecked C p
      by zero h = h
      by (suc k) h =
          let call : RunCalls (runs_in w0) h.0 p = (h.2.0, first_entry h.0 ∙ h.2.1, h.2.2) in
          absurd (none_of_zero (λ from. RunCalls (runs_in w0) from p) (subst (λ (m : ℕ). IsCount (λ from. RunCalls (runs_in w0) from p) m) none (counted_first p)) h.0 call)

  module _ (q : ℕ) (range : Range) (runs : List NodeRun) (fits : Fits C (runs_of D) q range runs)
      (w1 w2 : Slots) (pending1 pending2 : List Pair) (left stand : ℕ)
      (cleared : IsCleared w0 w1 q [] pending1 left) (mending : IsMending w1 w2 runs pending1 pending2 stand) where
    at_name : (p : Pair) → p.name ≡ q → apart_from q (runs_of D) p ≡ None
    at_name p e = ap (λ (b : Bool). if b then None else runs_of D p) ((Decides-eqb p.name q).1 e)

    off_name : (p : Pair) → (p.name ≡ q → ⊥) → apart_from q (runs_of D) p ≡ runs_of D p
    off_name p off = by (p.name == q) refl
      where
        by : (b : Bool) → (p.name == q) ≡ b → (if p.name == q then None else runs_of D p) ≡ runs_of D p
        by true e = absurd (off ((Decides-eqb p.name q).0 e))
        by false e = ap (λ (b : Bool). if b then None else runs_of D p) e

    kept_entry : (p : Pair) → (w1 p).entry ≡ apart_from q (runs_of D) p
    kept_entry p = by (cases_eq p.name q)
      where
        by : (p.name ≡ q) ⊎ (p.name ≡ q → ⊥) → (w1 p).entry ≡ apart_from q (runs_of D) p
        by (inl e) = cleared.gone p e ∙ sym (at_name p e)
        by (inr off) = cleared.others p off ∙ first_entry p ∙ sym (off_name p off)

    -- the runs that stand are the mended ones
    pub mended_is : (p : Pair) → (w2 p).entry ≡ mended (runs_of D) q runs p
    mended_is p = mending.entry p ∙ ap (λ (o : Option Entry). either o (run_at runs p)) (kept_entry p) ∙ by (entry_cases (apart_from q (runs_of D) p)) (entry_cases (run_at runs p))
      where
        swap : (a b : Option Entry) → (b ≡ None) ⊎ (a ≡ None) ⊎ (a ≡ b) → either a b ≡ either b a
        swap None None h = refl
        swap None (Some y) h = refl
        swap (Some x) None h = refl
        swap (Some x) (Some y) (inl h) = cc
        swap (Some x) (Some y) (inr (inl h)) = cc
        swap (Some x) (Some y) (inr (inr h)) = h

        by : (apart_from q (runs_of D) p ≡ None) ⊎ ((e : Entry) × (apart_from q (runs_of D) p ≡ Some e)) → (run_at runs p ≡ None) ⊎ ((e : Entry) × (run_at runs p ≡ Some e))
            → either (apart_from q (runs_of D) p) (run_at runs p) ≡ either (run_at runs p) (apart_from q (runs_of D) p)
        by a (inl none) = swap (apart_from q (runs_of D) p) (run_at runs p) (inl none)
        by (inl none) b = swap (apart_from q (runs_of D) p) (run_at runs p) (inr (inl none))
        by (inr a) (inr b) = swap (apart_from q (runs_of D) p) (run_at runs p) (inr (inr (a.1 ∙ ap Some same ∙ sym b.1)))
          where
            off : p.name ≡ q → ⊥
            off e = let f = at_name p e in let g = a.1 in cc

            r : (r : NodeRun) × Contains runs r × (r.pair ≡ p) × (run_of r ≡ b.0)
            r = frame_at runs p b.0 b.1

            same : a.0 ≡ b.0
            same = sym (fits.standing r.0 a.0 r.1 (λ e. off (ap (λ (x : Pair). x.name) (sym r.2) ∙ e)) (ap (runs_of D) r.2 ∙ sym (off_name p off) ∙ a.1)) ∙ r.3

    pub mended_all : runs_in w2 ≡ mended (runs_of D) q runs
    mended_all = λ i p. mended_is p i

    checked_still : (p : Pair) → (p.name ≡ q → ⊥) → IsChecked C p → IsChecked (with_range C q range) p
    checked_still p off h = (h.0, by (p.name == q) refl, h.2, h.3)
      where
        by : (b : Bool) → (p.name == q) ≡ b → with_range C q range p.name ≡ Some h.0
        by true e = absurd (off ((Decides-eqb p.name q).0 e))
        by false e = ap (λ (b : Bool). if b then Some range else C p.name) e ∙ h.1

    -- what nobody calls is checked or is to be looked at
    waiting : (p : Pair) → IsSome (w2 p).entry → (w2 p).callers ≡ 0 → IsChecked (with_range C q range) p ⊎ Contains pending2 p
    waiting p here none = by (entry_cases (w1 p).entry) (entry_cases (run_at runs p))
      where
        old : (e : Entry) → (w1 p).entry ≡ Some e → IsChecked (with_range C q range) p ⊎ Contains pending2 p
        old e is = elim (cleared.fell p (mending.fewer p none)) [
          | inl zero' ↦ inl (checked_still p off (uncalled p n.0 n.1 zero'))
          | inr at ↦ inr (mending.keeps p at)
        ]
          where
            off : p.name ≡ q → ⊥
            off same = let f = cleared.gone p same in let g = is in cc

            n : (n : Node) × (D p ≡ Some n) × (node_entry n ≡ e)
            n = map_some (D p) e (sym (off_name p off) ∙ sym (kept_entry p) ∙ is)

        by : ((w1 p).entry ≡ None) ⊎ ((e : Entry) × ((w1 p).entry ≡ Some e)) → (run_at runs p ≡ None) ⊎ ((e : Entry) × (run_at runs p ≡ Some e))
            → IsChecked (with_range C q range) p ⊎ Contains pending2 p
        by (inr a) b = old a.0 a.1
        by (inl a) (inr b) = inr (mending.joins p (is_some (run_at runs p) b.0 b.1))
        by (inl a) (inl b) = absurd (none_is_some (w2 p).entry (mending.entry p ∙ ap (λ (o : Option Entry). either o (run_at runs p)) a ∙ b) here)

    -- so dropping can begin
    pub dropping_starts : IsDropping (with_range C q range) (runs_in w2) w2 pending2 stand
    dropping_starts =
        can_drop (with_range C q range) w2 pending2 stand (subst (λ (R : Runs). IsClosed (with_range C q range) R) (sym mended_all) fits.closed) mending.counted mending.many waiting

    -- all totals are known, so far
    pub none_unsettled : (p : Pair) → IsUnsettled w2 p → ⊥
    none_unsettled p h = by (mending.known p h) (cases_eq p.name q)
      where
        by : IsUnsettled w1 p → (p.name ≡ q) ⊎ (p.name ≡ q → ⊥) → ⊥
        by k (inl e) = none_is_some (w1 p).entry (cleared.gone p e) k.stands
        by k (inr off) =
            let e = some_is (w1 p).entry k.stands in
            let n = map_some (D p) e.0 (sym (first_entry p) ∙ sym (cleared.others p off) ∙ e.1) in
            let f = first_total p n.0 n.1 in
            let g = cleared.totals p off in
            let u = k.unknown in
            cc

    module _ (w3 w4 : Slots) (names : List ℕ) (many : ℕ) (dropped : IsDropped (with_range C q range) (runs_in w2) w3 many) (totals : KeepsTotals w2 w3)
        (forgotten : IsForgotten w3 w4 D names runs) (has : Contains names q)
        (covers : (p to : Pair) (n : Node) → D p ≡ Some n → Contains n.calls to → Contains names to.name → Contains names p.name) where
      within : (p : Pair) (e : Entry) → (w4 p).entry ≡ Some e → mended (runs_of D) q runs p ≡ Some e
      within p e is = sym (mended_is p) ∙ dropped.within p e (sym (forgotten.entry p) ∙ is)

      live : (p : Pair) → IsSome (w4 p).entry → IsReached (with_range C q range) (mended (runs_of D) q runs) p
      live p here = subst (λ (R : Runs). IsReached (with_range C q range) R p) mended_all (dropped.live p (subst (λ (o : Option Entry). IsSome o) (forgotten.entry p) here))

      stands : (p : Pair) → IsReached (with_range C q range) (mended (runs_of D) q runs) p → IsSome (w4 p).entry
      stands p l = subst (λ (o : Option Entry). IsSome o) (sym (forgotten.entry p)) (dropped.kept p (subst (λ (R : Runs). IsReached (with_range C q range) R p) (sym mended_all) l))

      same : (p : Pair) (n : Node) → (Contains names p.name → ⊥) → D p ≡ Some n → mended (runs_of D) q runs p ≡ Some (node_entry n)
      same p n off is =
          sym (mended_is p) ∙ mending.entry p ∙ ap (λ (o : Option Entry). either o (run_at runs p)) (kept_entry p ∙ off_name p (λ e. off (subst (Contains names) (sym e) has)) ∙ ap (option_map node_entry) is)

      -- and totals can be settled
      pub settling_starts : CanSettle w4
      settling_starts = record {
        total = fits.totals.0;
        rank = fits.closed.no_cycle.0;
        sums = λ p e is. fits.totals.1 p e (within p e is);
        fit = λ p here. fits.totals.2 p (live p here);
        closed = λ from to call. stands to (live_call (with_range C q range) (mended (runs_of D) q runs) from to (live from (is_some (w4 from).entry call.0 call.1)) (call.0, within from call.0 call.1, call.2));
        falls = λ from to call. fits.closed.no_cycle.1 from to (call.0, within from call.0 call.1, call.2);
        right = right;
      }
        where
          right : (p : Pair) (t : ℕ) → IsSome (w4 p).entry → (w4 p).total ≡ Some t → t ≡ fits.totals.0 p
          right p t here is = by (entry_cases (run_at runs p)) (entry_cases (apart_from q (runs_of D) p))
            where
              some_total : (w4 p).total ≡ None → ⊥
              some_total none = let e = is in cc

              standing : (w2 p).entry ≡ (w4 p).entry
              standing =
                  let e = some_is (w4 p).entry here in
                  dropped.within p e.0 (sym (forgotten.entry p) ∙ e.1) ∙ sym e.1

              old : (e : Entry) → apart_from q (runs_of D) p ≡ Some e → t ≡ fits.totals.0 p
              old e f = sym t_is ∙ total_stays C (runs_of D) D drawn (λ (m : ℕ). Contains names m) (mended (runs_of D) q runs) fits.totals.0 fits.closed.no_cycle.0 fits.totals.1 fits.closed.no_cycle.1 same covers p n.0 off n.1
                where
                  apart : p.name ≡ q → ⊥
                  apart g = let k = at_name p g in let l = f in cc

                  n : (n : Node) × (D p ≡ Some n) × (node_entry n ≡ e)
                  n = map_some (D p) e (sym (off_name p apart) ∙ f)

                  off : Contains names p.name → ⊥
                  off at = some_total (forgotten.named p here at (has_node (D p) n.0 n.1))

                  before : (w4 p).total ≡ (w3 p).total
                  before = elim (forgotten.totals p) [ inl none ↦ absurd (some_total none) | inr e ↦ e ]

                  t_is : n.0.total ≡ t
                  t_is =
                      let a = before in
                      let b = totals p (subst (λ (o : Option Entry). IsSome o) (forgotten.entry p) here) in
                      let c = mending.totals p (is_some (w1 p).entry e (kept_entry p ∙ f)) in
                      let d = cleared.totals p apart in
                      let g = first_total p n.0 n.1 in
                      let h = is in
                      cc

              by : (run_at runs p ≡ None) ⊎ ((e : Entry) × (run_at runs p ≡ Some e)) → (apart_from q (runs_of D) p ≡ None) ⊎ ((e : Entry) × (apart_from q (runs_of D) p ≡ Some e)) → t ≡ fits.totals.0 p
              by (inr r) b = absurd (some_total (forgotten.frames p here (is_some (run_at runs p) r.0 r.1)))
              by (inl none) (inr e) = old e.0 e.1
              by (inl none) (inl gone) =
                  absurd (none_is_some (w4 p).entry (sym standing ∙ mending.entry p ∙ ap (λ (o : Option Entry). either o (run_at runs p)) (kept_entry p ∙ gone) ∙ none) here)

-- ---- for the code

nothing_at : {X : Type 0} (m : BTreeMap ℕ X) (n : ℕ) → m.entries ≡ [] → tree.get nat_cmp m n ≡ None
nothing_at {X = X} m n e = ap (λ (es : List (ℕ × X)). lookup (λ (k : ℕ). is_eq (nat_cmp n k)) es) e

-- slots of which none was touched are those of the table
pub slots_first : (w : Work) (known folders : Folders) → w.touched.entries ≡ [] → known ≡ folders → (p : Pair) → slots_of known w p ≡ slot_of (node_at folders p)
slots_first w known folders none same p =
    ap (λ (o : Option (BTreeMap ℤ Slot)). slot_or (in_name p.arg o) (node_at known p)) (nothing_at w.touched p.name none)
    ∙ ap (λ (f : Folders). slot_of (node_at f p)) same

pub many_first : (D : Drawing) (w : Slots) (many : ℕ) → ((p : Pair) → w p ≡ slot_of (D p)) → IsCount (λ p. IsSome (D p)) many → IsCount (λ p. IsSome (w p).entry) many
many_first D w many fresh count =
    count_same (λ p. IsSome (D p)) (λ p. IsSome (w p).entry) many
    (λ p h. subst (λ (s : Slot). IsSome s.entry) (sym (fresh p)) (to (D p) h)) (λ p h. from (D p) (subst (λ (s : Slot). IsSome s.entry) (fresh p) h)) count
  where
    to : (o : Option Node) → IsSome o → IsSome (slot_of o).entry
    to None h = cc
    to (Some n) h = refl

    from : (o : Option Node) → IsSome (slot_of o).entry → IsSome o
    from None h = cc
    from (Some n) h = refl

pub settled_dropped : (C : CheckedRanges) (w2 w3 : Slots) (many : ℕ) → IsDropped C (runs_in w2) w3 many → KeepsTotals w2 w3 → ((p : Pair) → IsUnsettled w2 p → ⊥) → (p : Pair) → IsUnsettled w3 p → ⊥
settled_dropped C w2 w3 many dropped totals settled p h =
    let e = some_is (w3 p).entry h.stands in
    settled p (record { stands = is_some (w2 p).entry e.0 (dropped.within p e.0 e.1); unknown = sym (totals p h.stands) ∙ h.unknown })

pub forgotten_from : (w3 w4 : Slots) (D : Drawing) (names : List ℕ) (runs : List NodeRun) (pairs listed : List Pair) (many : ℕ) → IsForgetting w3 w4 pairs listed many
    → ((p : Pair) → IsSome (run_at runs p) → Contains pairs p) → ((p : Pair) → Contains names p.name → IsSome (D p) → Contains pairs p) → IsForgotten w3 w4 D names runs
forgotten_from w3 w4 D names runs pairs listed many h frames named = record {
  entry = h.entry;
  callers = h.callers;
  totals = h.totals;
  frames = λ p here some. h.gone p (frames p some) here;
  named = λ p here at there. h.gone p (named p at there) here;
}

-- the same runs and callers are dropped likewise
pub dropped_same : (C : CheckedRanges) (R : Runs) (old new : Slots) (many : ℕ) → ((q : Pair) → (new q).entry ≡ (old q).entry) → ((q : Pair) → (new q).callers ≡ (old q).callers) → IsDropped C R old many → IsDropped C R new many
dropped_same C R old new many entry callers h =
    let runs : runs_in new ≡ runs_in old = λ i q. entry q i in
    record {
      within = λ p e is. h.within p e (sym (entry p) ∙ is);
      kept = λ p live. subst (λ (o : Option Entry). IsSome o) (sym (entry p)) (h.kept p live);
      live = λ p here. h.live p (subst (λ (o : Option Entry). IsSome o) (entry p) here);
      counted = λ q. subst (λ (S : Runs). IsCount (λ from. RunCalls S from q) (new q).callers) (sym runs) (subst (λ (n : ℕ). IsCount (λ from. RunCalls (runs_in old) from q) n) (sym (callers q)) (h.counted q));
      many = subst (λ (S : Runs). IsCount (λ p. IsSome (S p)) many) (sym runs) h.many;
    }

pub many_last : (C : CheckedRanges) (R : Runs) (w : Slots) (many : ℕ) → IsDropped C R w many → IsCount (λ p. IsSome (drawing_of w p)) many
many_last C R w many h =
    count_same (λ p. IsSome (w p).entry) (λ p. IsSome (drawing_of w p)) many (λ p some. to p (w p) (w p).entry some) (λ p some. from p (w p) (w p).entry some) h.many
  where
    to : (p : Pair) (s : Slot) (o : Option Entry) → IsSome o → IsSome (node_from p s o)
    to p s None h = cc
    to p s (Some e) h = refl

    from : (p : Pair) (s : Slot) (o : Option Entry) → IsSome (node_from p s o) → IsSome o
    from p s None h = cc
    from p s (Some e) h = refl
