-- What is demanded is what a node calls.
use Rattle.std.proofs.Common.{suc, ◌<◌, ◌≡◌, refl, sym, ap, subst, arith, pos, inl, inr, List, [], ◌∷◌, Contains, length}
use Rattle.std.specs.declared.option.Option.TheVariants.{Some}
use Rattle.loda_semantics.specs.declared.kinds.Pair.{Pair}
use Rattle.loda_semantics.specs.Exec.{Outcome, value, Calls, none, call, run_name}
use Rattle.program_store.specs.Store.{Store, programs_of}
use Rattle.seq_calls.specs.Frames.{pair, direct}
use Rattle.seq_calls.specs.Demand.{InTrace, ample, InDem}
use Rattle.seq_calls.specs.Runs.{HasValues}
use Rattle.seq_calls.proofs.Records.{AreAnswered, answered_name}
use Rattle.demand_table.specs.declared.entry.Entry.{Entry}
use Rattle.demand_table.specs.declared.node.Node.{Node}
use Rattle.demand_table.specs.Drawn.{RunCalls as CallsIn, IsReached, Drawing, NodeCalls, node_entry}
use Rattle.demand_table.specs.Table.{runs_in_library, checks_in_store, IsDemandTable}
use Rattle.demand_table.proofs.Counts.{cons-here, cons-more}
use Rattle.demand_table.proofs.Counted.{some_is, is_some, same_entry}
use Rattle.demand_table.proofs.Pairs.{same_parts}
use Rattle.demand_table.proofs.Ran.{entry_with}
use Rattle.demand_table.proofs.Live.{is_checked_at, table_values, called_demanded, live_forth}

module _ (s : Store) where
  -- a live pair whose run calls this one
  abbrev HasCaller : Pair → Type 0
  HasCaller p = (from : Pair) × IsReached (checks_in_store s) (runs_in_library (programs_of s)) from × CallsIn (runs_in_library (programs_of s)) from p

  traced_caller : (c : Calls) → AreAnswered (programs_of s) ample c → (from : Pair) → IsReached (checks_in_store s) (runs_in_library (programs_of s)) from
      → ((to : Pair) → Contains (direct c) to → CallsIn (runs_in_library (programs_of s)) from to) → (p : Pair) → InTrace p.name p.arg c → HasCaller p
  traced_caller none h from live calls p t = absurd t
  traced_caller (call r y o inner rest) h from live calls p (inl e) =
      subst HasCaller (same_parts (pair r y) p (sym e.0) (sym e.1)) (from, live, calls (pair r y) (cons-here (pair r y) (direct rest)))
  traced_caller (call r y o inner rest) h from live calls p (inr (inl t)) =
      traced_caller inner h.1 (pair r y) (suc live.0, (from, live.1, calls (pair r y) (cons-here (pair r y) (direct rest))))
      (λ to at. (_, entry_with (programs_of s) (pair r y) h.0.0 h.0.1 inner h.0.3, at)) p t
  traced_caller (call r y o inner rest) h from live calls p (inr (inr t)) =
      traced_caller rest h.2 from live (λ to at. calls to (cons-more (pair r y) (direct rest) to at)) p t

  pub demanded_caller : HasValues s → (p : Pair) → InDem s p.name p.arg → HasCaller p
  demanded_caller values p d =
      let top : Pair = pair d.0 (pos d.1) in
      let v = values d.0 d.1 d.2.0 d.2.1 d.2.2 in
      let calls = (run_name (programs_of s) d.0 (pos d.1) ample).1 in
      let is : run_name (programs_of s) d.0 (pos d.1) ample ≡ (value v.0 v.1, calls) = ap (λ (o : Outcome). (o, (run_name (programs_of s) d.0 (pos d.1) ample).1)) v.2 in
      traced_caller calls (answered_name (programs_of s) ample d.0 (pos d.1) v.0 v.1 calls is) top (0, is_checked_at s top d.2.0 d.1 d.2.1 d.2.2 refl)
      (λ to at. (_, entry_with (programs_of s) top v.0 v.1 calls is, at)) p d.2.3

  module _ (D : Drawing) (table : IsDemandTable s D) where
    -- a caller of a pair has a node, and so has the pair
    pub node_calls : (from p : Pair) → IsReached (checks_in_store s) (runs_in_library (programs_of s)) from → CallsIn (runs_in_library (programs_of s)) from p → NodeCalls D p from
    node_calls from p live h =
        let node = some_is (D from) ((table.live from).1 live) in
        let same = same_entry (runs_in_library (programs_of s) from) h.0 (node_entry node.0) h.1 (table.runs from node.0 node.1) in
        (node.0, node.1, subst (λ (e : Entry). Contains e.calls p) same h.2)

    some_thing : (things : List Pair) → 0 < length things → (x : Pair) × Contains things x
    some_thing [] lt = absurd (omega (arith, lt))
    some_thing (x ∷ xs) lt = (x, cons-here x xs)

    pub called_node : (p : Pair) → InDem s p.name p.arg → (n : Node) × (D p ≡ Some n) × (0 < n.callers)
    called_node p d =
        let k = demanded_caller (table_values s D table) p d in
        let node = some_is (D p) ((table.live p).1 (suc k.1.0, (k.0, k.1.1, k.2))) in
        let count = table.callers p node.0 node.1 in
        let at = (count.exact k.0).0 (node_calls k.0 p k.1 k.2) in
        let lt = at.1 in
        let many = count.count in
        (node.0, node.1, omega (arith, lt, many))

    pub demanded_node : (p : Pair) (n : Node) → D p ≡ Some n → 0 < n.callers → InDem s p.name p.arg
    demanded_node p n is lt =
        let count = table.callers p n is in
        let many = count.count in
        let from = some_thing count.things (omega (arith, lt, many)) in
        let calls = (count.exact from.0).1 from.1 in
        let live = (table.live from.0).0 (is_some (D from.0) calls.0 calls.1) in
        let values = table_values s D table in
        called_demanded s values from.0 p (live_forth s values live.0 from.0 live.1) (node_entry calls.0, table.runs from.0 calls.0 calls.1, calls.2)
