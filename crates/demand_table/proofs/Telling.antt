-- What the look-ups of tables tell of the store.
use Rattle.std.proofs.Common.{ℕ, Bor, zero, suc, ◌≡◌, sym, ap, subst, ◌∙◌, arith, ℤ, ◌<ℤ◌, inl, inr, List, [], ◌∷◌, Contains}
use Rattle.std.specs.Prelude.{slice_get, IfOk, IfSome, IfNone}
use Rattle.std.specs.Option.{option_copied}
use Rattle.std.specs.declared.option.Option.{Option}
use Rattle.std.specs.declared.result.Result.{Result}
use Rattle.std.specs.declared.result.Result.TheVariants.{Ok, Err}
use Rattle.std.specs.declared.option.Option.TheVariants.{Some, None}
use Rattle.loda_semantics.specs.declared.kinds.Pair.{Pair}
use Rattle.loda_semantics.specs.Exec.{Outcome, value, Calls as CallRecords}
use Rattle.program_store.specs.Store.{Store, published_at, programs_of}
use Rattle.seq_calls.specs.Frames.{pair}
use Rattle.seq_calls.specs.Demand.{InDem, IsReliedOn}
use Rattle.seq_calls.specs.Runs.{HasValues}
use Rattle.seq_calls.proofs.Relied.{is_checked}
use Rattle.demand_table.specs.declared.node.Node.{Node}
use Rattle.demand_table.specs.Counts.{IsCount}
use Rattle.demand_table.specs.Drawn.{IsReached, Drawing, NodeCalls, node_entry}
use Rattle.demand_table.specs.Demanded.{Rises, AreCalled}
use Rattle.demand_table.specs.Nodes.{IsLive, IsNodeAt, IsAscending, ListsDem, CallsPair}
use Rattle.demand_table.specs.Table.{runs_in_library, steps_at, checks_in_store, IsDemandTable, IsLiveIn}
use Rattle.demand_table.proofs.Counts.{cons-same, cons-more, count_same}
use Rattle.demand_table.proofs.Counted.{none_is_some, is_some}
use Rattle.demand_table.proofs.Drawings.{total_stays}
use Rattle.demand_table.proofs.Ran.{ran_of, steps_with}
use Rattle.demand_table.proofs.Below.{calls_have_values, steps_are_totals}
use Rattle.demand_table.proofs.Live.{relied, table_values, called_demanded, live_forth, live_back}
use Rattle.demand_table.proofs.Dem.{demanded_caller, node_calls}

-- ---- lists that rise

at_place : (xs : List ℤ) (i : ℕ) (x : ℤ) → slice_get xs i ≡ Some x → Contains xs x
at_place [] i x h = absurd cc
at_place (y ∷ ys) zero x h = cons-same y ys x cc
at_place (y ∷ ys) (suc i) x h = cons-more y ys x (at_place ys i x h)

pub rises_at : (xs : List ℤ) → Rises xs → IsAscending xs
rises_at [] up i j a b lt at bt = absurd cc
rises_at (x ∷ xs) up i zero a b lt at bt = absurd (omega arith)
rises_at (x ∷ xs) up zero (suc j) a b lt at bt = let same : x ≡ a = cc in subst (λ (y : ℤ). y <ℤ b) same (up.0 b (at_place xs j b bt))
rises_at (x ∷ xs) up (suc i) (suc j) a b lt at bt = rises_at xs up.1 i j a b (omega arith) at bt

module _ (s : Store) (D : Drawing) (table : IsDemandTable s D) where
  values : HasValues s
  values = table_values s D table

  -- ---- live pairs

  live_of : (p : Pair) → IsReached (checks_in_store s) (runs_in_library (programs_of s)) p → IsLive s p.name p.arg
  unfolding values
  live_of p live = let h = live_forth s values live.0 p live.1 in ((h.0, h.1), relied s values p h)

  live_in : (p : Pair) → IsLive s p.name p.arg → IsLiveIn s p
  live_in p h = by_case h.1
    where
      by_case : IsReliedOn s p.name p.arg → IsLiveIn s p
      by_case (inl c) = let known = is_checked (published_at s p.name) c.0 c.1 in (known.0, known.1, inl (c.0, known.2, c.2))
      by_case (inr d) = (h.0.0, h.0.1, inr d)

  live_by : (p : Pair) → IsLive s p.name p.arg → IsReached (checks_in_store s) (runs_in_library (programs_of s)) p
  unfolding values
  live_by p h = live_back s values p (live_in p h)

  node_live : (p : Pair) (n : Node) → D p ≡ Some n → IsReached (checks_in_store s) (runs_in_library (programs_of s)) p
  node_live p n is = (table.live p).0 (is_some (D p) n is)

  -- ---- a node

  -- the total of a node is the steps of its run
  total_is : (p : Pair) (n : Node) → D p ≡ Some n → n.total ≡ steps_at (programs_of s) p
  total_is p n is =
      total_stays (checks_in_store s) (runs_in_library (programs_of s)) D table (λ q. ⊥) (runs_in_library (programs_of s)) (steps_at (programs_of s)) (steps_at (programs_of s))
      (steps_are_totals (programs_of s)) (λ from to h. (calls_have_values (programs_of s) from to h).1) (λ p n off is. table.runs p n is) (λ p to n is at h. h) p n (λ h. h) is

  pub tells : (p : Pair) (n : Node) → D p ≡ Some n → n.arg ≡ p.arg → IsNodeAt s p.name p.arg n
  tells p n is arg =
      let ran = ran_of (programs_of s) p (node_entry n) (table.runs p n is) in
      let used : ran.used ≡ n.total = sym (steps_with (programs_of s) p n.value ran.used ran.calls ran.is) ∙ sym (total_is p n is) in
      record {
        live = live_of p (node_live p n is);
        arg = arg;
        ran = ap (λ (z : Outcome × CallRecords). z.0) ran.is ∙ ap (value n.value) used;
      }

  pub absent : (p : Pair) → D p ≡ None → IsLive s p.name p.arg → ⊥
  absent p none h = none_is_some (D p) none ((table.live p).1 (live_by p h))

  pub called_by : (p : Pair) (n : Node) → D p ≡ Some n → IsCount (CallsPair s p) n.callers
  called_by p n is =
      count_same (NodeCalls D p) (CallsPair s p) n.callers
      (λ from h. (live_of from (node_live from h.0 h.1), (node_entry h.0, table.runs from h.0 h.1, h.2)))
      (λ from h. node_calls s D table from p (live_by from h.0) h.1)
      (table.callers p n is)

  -- ---- what is demanded

  demanded_of : (p from : Pair) → NodeCalls D p from → InDem s p.name p.arg
  unfolding values
  demanded_of p from calls =
      let live = node_live from calls.0 calls.1 in
      called_demanded s values from p (live_forth s values live.0 from live.1) (node_entry calls.0, table.runs from calls.0 calls.1, calls.2)

  caller_of : (p : Pair) → InDem s p.name p.arg → (from : Pair) × NodeCalls D p from
  unfolding values
  caller_of p d = let k = demanded_caller s values p d in (k.0, node_calls s D table k.0 p k.1 k.2)

  pub lists : (name : ℕ) (list : List ℤ) → AreCalled D name list → ListsDem s name list
  lists name list called = record {
    each = λ x. (λ at. let h = (called.exact x).0 at in demanded_of (pair name x) h.0 h.1, λ d. (called.exact x).1 (caller_of (pair name x) d));
    ascending = rises_at list called.rises;
  }

-- ---- results of calls

pub if_ok : {A E : Type 0} (r : Result A E) (P Q : A → Type 0) → ((a : A) → P a → Q a) → IfOk r P → IfOk r Q
if_ok (Ok c) P Q to h = to c h
if_ok (Err e) P Q to h = tt

-- what is told of a node behind a reference
pub told_some : (r : Option (Bor Node)) (o : Option Node) (Q : Node → Type 0) → ((n : Node) → o ≡ Some n → Q n) → option_copied r ≡ o → IfSome r (λ n. Q n.now)
told_some None o Q to h = tt
told_some (Some n) o Q to h = to n.now (sym h)

pub told_none : (r : Option (Bor Node)) (o : Option Node) (Q : Type 0) → (o ≡ None → Q) → option_copied r ≡ o → IfNone r Q
told_none None o Q to h = to (sym h)
told_none (Some n) o Q to h = tt
