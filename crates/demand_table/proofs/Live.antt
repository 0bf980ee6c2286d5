-- What is live by the definition of drawing is live in the store.
use Rattle.std.proofs.Common.{ℕ, zero, suc, ◌<◌, ◌≡◌, refl, sym, ap, subst, ◌∙◌, arith, ℤ, pos, negsuc, inl, inr, List, Contains}
use Rattle.std.specs.Prelude.{◌⊎◌, ◌≤ℤ◌, ◌<ℤ◌, ◌+ℤ◌}
use Rattle.std.proofs.lemmas.Int.{ints}
use Rattle.std.specs.declared.option.Option.{Option}
use Rattle.std.specs.declared.option.Option.TheVariants.{Some, None}
use Rattle.std.specs.Option.{option_map}
use Rattle.loda_semantics.specs.declared.kinds.Pair.{Pair}
use Rattle.loda_semantics.specs.Exec.{Outcome, value, Calls, none, call, run_name}
use Rattle.program_store.specs.declared.published.Published.{Published}
use Rattle.program_store.specs.Store.{Store, published_at, programs_of, checked_in}
use Rattle.program_store.proofs.Puts.{published_program}
use Rattle.seq_calls.specs.Frames.{pair, direct}
use Rattle.seq_calls.specs.Demand.{InTrace, ample, InDem, IsReliedOn}
use Rattle.seq_calls.proofs.Records.{AreAnswered, answered_name}
use Rattle.seq_calls.specs.Runs.{HasValues}
use Rattle.seq_calls.proofs.Bounded.{has_text}
use Rattle.seq_calls.proofs.Relied.{relied_run}
use Rattle.demand_table.specs.declared.range.Range.{Range}
use Rattle.demand_table.specs.Drawn.{IsChecked, RunCalls as CallsIn, ReachedAfter, IsReached, Drawing, node_entry}
use Rattle.demand_table.specs.Table.{runs_in_library, from_zero, checks_in_store, IsDemandTable, IsLiveIn}
use Rattle.demand_table.proofs.Counts.{nil-cases, cons-cases, cons-here, cons-more}
use Rattle.demand_table.proofs.Counted.{some_is}
use Rattle.demand_table.proofs.Pairs.{same_parts}
use Rattle.demand_table.proofs.Ran.{ran_of, entry_with}

-- a direct call is in the trace
pub direct_traced : (c : Calls) (to : Pair) → Contains (direct c) to → InTrace to.name to.arg c
direct_traced none to at = absurd (nil-cases to at)
direct_traced (call q x o inner rest) to at = by_part (direct_traced rest to) (cons-cases (pair q x) (direct rest) to at)
  where
    by_part : (Contains (direct rest) to → InTrace to.name to.arg rest) → (pair q x ≡ to) ⊎ Contains (direct rest) to → InTrace to.name to.arg (call q x o inner rest)
    by_part later (inl e) = inl (sym (ap (λ (p : Pair). p.name) e), sym (ap (λ (p : Pair). p.arg) e))
    by_part later (inr k) = inr (inr (later k))

-- ---- checked arguments

-- a whole number from 0 up and below a count is a place
pub place_of : (x : ℤ) (k : ℕ) → pos 0 ≤ℤ x → x <ℤ (pos 0 +ℤ pos k) → (i : ℕ) × (i < k) × (x ≡ pos i)
place_of (pos i) k low high = (i, omega (arith, ints), refl)
place_of (negsuc i) k low high = absurd (omega (arith, ints))

-- and the other way round
pub place_in : (x : ℤ) (k i : ℕ) → i < k → x ≡ pos i → (pos 0 ≤ℤ x) × (x <ℤ (pos 0 +ℤ pos k))
place_in x k i lt e = subst (λ (z : ℤ). (pos 0 ≤ℤ z) × (z <ℤ (pos 0 +ℤ pos k))) (sym e) (omega (arith, ints), omega (arith, ints))

pub range_some : (o : Option Published) (r : Range) → option_map (λ (e : Published). from_zero e.checked) o ≡ Some r → (e : Published) × (o ≡ Some e) × (from_zero e.checked ≡ r)
range_some None r h = absurd (let z : None ≡ Some r = h in cc)
range_some (Some e) r h = (e, refl, cc)

module _ (s : Store) where
  pub checked_of : (p : Pair) → IsChecked (checks_in_store s) p → (e : Published) × (published_at s p.name ≡ Some e) × ((i : ℕ) × (i < e.checked) × (p.arg ≡ pos i))
  checked_of p h =
      let there = range_some (published_at s p.name) h.0 h.1 in (
        there.0,
        there.1,
        place_of p.arg there.0.checked
            (subst (λ (r : Range). r.first ≤ℤ p.arg) (sym there.2) h.2) (subst (λ (r : Range). p.arg <ℤ (r.first +ℤ pos r.checked)) (sym there.2) h.3),
      )

  pub is_checked_at : (p : Pair) (e : Published) (i : ℕ) → published_at s p.name ≡ Some e → i < e.checked → p.arg ≡ pos i → IsChecked (checks_in_store s) p
  is_checked_at p e i there lt is =
      let bounds = place_in p.arg e.checked i lt is in
      (from_zero e.checked, ap (option_map (λ (e : Published). from_zero e.checked)) there, bounds.0, bounds.1)

  -- a store that has a table has values at its checked arguments
  pub table_values : (D : Drawing) → IsDemandTable s D → HasValues s
  table_values D d q i e there lt =
      let p : Pair = pair q (pos i) in
      let node = some_is (D p) ((d.live p).1 (0, is_checked_at p e i there lt refl)) in
      let ran = ran_of (programs_of s) p (node_entry node.0) (d.runs p node.0 node.1) in
      (node.0.value, ran.used, ap (λ (z : Outcome × Calls). z.0) ran.is)

  -- ---- what a live run calls

  live_traced : (c : Calls) → AreAnswered (programs_of s) ample c → (from : Pair) (n : ℕ) → ReachedAfter (checks_in_store s) (runs_in_library (programs_of s)) n from
      → ((to : Pair) → Contains (direct c) to → CallsIn (runs_in_library (programs_of s)) from to)
      → (p : Pair) → InTrace p.name p.arg c → IsReached (checks_in_store s) (runs_in_library (programs_of s)) p
  live_traced none h from n live calls p t = absurd t
  live_traced (call r y o inner rest) h from n live calls p (inl e) =
      subst (IsReached (checks_in_store s) (runs_in_library (programs_of s))) (same_parts (pair r y) p (sym e.0) (sym e.1))
      (suc n, (from, live, calls (pair r y) (cons-here (pair r y) (direct rest))))
  live_traced (call r y o inner rest) h from n live calls p (inr (inl t)) =
      live_traced inner h.1 (pair r y) (suc n) (from, live, calls (pair r y) (cons-here (pair r y) (direct rest)))
      (λ to at. (_, entry_with (programs_of s) (pair r y) h.0.0 h.0.1 inner h.0.3, at)) p t
  live_traced (call r y o inner rest) h from n live calls p (inr (inr t)) =
      live_traced rest h.2 from n live (λ to at. calls to (cons-more (pair r y) (direct rest) to at)) p t

  module _ (values : HasValues s) where
    pub relied : (p : Pair) → IsLiveIn s p → IsReliedOn s p.name p.arg
    relied p (e, there, inl c) = inl (c.0, subst (λ (o : Option Published). c.0 < checked_in o) (sym there) c.1, c.2)
    relied p (e, there, inr d) = inr d

    -- what a live run calls is demanded
    pub called_demanded : (from to : Pair) → IsLiveIn s from → CallsIn (runs_in_library (programs_of s)) from to → InDem s to.name to.arg
    called_demanded from to live h =
        let both = relied_run s values from.name from.arg (relied from live) in
        let ran = ran_of (programs_of s) from h.0 h.1 in
        let same : ran.calls ≡ both.0.calls = ap (λ (z : Outcome × Calls). z.1) (sym ran.is ∙ both.0.is) in
        both.1 to.name to.arg (subst (λ (c : Calls). InTrace to.name to.arg c) same (direct_traced ran.calls to (subst (λ (l : List Pair). Contains l to) ran.called h.2)))

    pub demanded_live : (p : Pair) → InDem s p.name p.arg → IsLiveIn s p
    demanded_live p d =
        let ran = (relied_run s values p.name p.arg (inr d)).0 in
        let text = has_text (programs_of s) p.name p.arg ran.value_of ample ran.used ran.calls ran.is in
        let there = published_program s p.name text.0 text.1 in
        (there.0, there.1, inr d)

    pub live_forth : (n : ℕ) (p : Pair) → ReachedAfter (checks_in_store s) (runs_in_library (programs_of s)) n p → IsLiveIn s p
    live_forth zero p h = let there = checked_of p h in (there.0, there.1, inl there.2)
    live_forth (suc n) p h = demanded_live p (called_demanded h.0 p (live_forth n h.0 h.1) h.2)

    pub live_back : (p : Pair) → IsLiveIn s p → IsReached (checks_in_store s) (runs_in_library (programs_of s)) p
    live_back p (e, there, inl c) = (0, is_checked_at p e c.0 there c.1 c.2)
    live_back p (e, there, inr d) =
        let top : Pair = pair d.0 (pos d.1) in
        let v = values d.0 d.1 d.2.0 d.2.1 d.2.2 in
        let calls = (run_name (programs_of s) d.0 (pos d.1) ample).1 in
        let is : run_name (programs_of s) d.0 (pos d.1) ample ≡ (value v.0 v.1, calls) = ap (λ (o : Outcome). (o, (run_name (programs_of s) d.0 (pos d.1) ample).1)) v.2 in
        live_traced calls (answered_name (programs_of s) ample d.0 (pos d.1) v.0 v.1 calls is) top 0 (is_checked_at top d.2.0 d.1 d.2.1 d.2.2 refl)
        (λ to at. (_, entry_with (programs_of s) top v.0 v.1 calls is, at)) p d.2.3
