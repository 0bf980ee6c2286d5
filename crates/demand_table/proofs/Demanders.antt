-- A checked run demands a pair where calls of nodes lead to it.
use Rattle.std.proofs.Common.{ℕ, zero, suc, ◌<◌, ◌≤◌, ◌≡◌, refl, sym, ap, subst, ◌∙◌, arith, ℤ, pos, inl, inr, List, [], Contains}
use Rattle.std.specs.Prelude.{◌⊎◌}
use Rattle.std.proofs.lemmas.Bool.{cases_lt}
use Rattle.std.specs.declared.option.Option.{Option}
use Rattle.std.specs.declared.option.Option.TheVariants.{Some, None}
use Rattle.std.specs.Option.{option_map_or}
use Rattle.loda_semantics.specs.declared.kinds.Pair.{Pair}
use Rattle.loda_semantics.specs.Exec.{Outcome, value, Calls as CallRecords, none, call, run_name}
use Rattle.program_store.specs.declared.published.Published.{Published}
use Rattle.program_store.specs.Store.{Store, published_at, programs_of, checked_in, checked_at}
use Rattle.seq_calls.specs.Frames.{pair, direct}
use Rattle.seq_calls.specs.Demand.{InTrace, ample, Demands, InDem, LeastCaller}
use Rattle.seq_calls.proofs.Records.{AreAnswered, answered_name}
use Rattle.seq_calls.proofs.Relied.{is_checked, traced}
use Rattle.demand_table.specs.declared.node.Node.{Node}
use Rattle.demand_table.specs.declared.entry.Entry.{Entry}
use Rattle.demand_table.specs.Drawn.{IsReached, Drawing, node_entry}
use Rattle.demand_table.specs.Leading.{calls_at, Leads, LeadsTo, IsFirstLeading}
use Rattle.demand_table.specs.Table.{runs_in_library, checks_in_store, IsDemandTable}
use Rattle.demand_table.proofs.Counts.{nil-cases, cons-here, cons-more}
use Rattle.demand_table.proofs.Counted.{some_is, same_entry}
use Rattle.demand_table.proofs.Pairs.{same_parts}
use Rattle.demand_table.proofs.Ran.{entry_with}
use Rattle.demand_table.proofs.Live.{direct_traced, is_checked_at, table_values}

-- no checked run of a name up to this one demands the pair
abbrev pub NoneUpTo : Store → ℕ → ℤ → ℕ → Type 0
NoneUpTo s q x last = (c i : ℕ) → c ≤ last → Demands s c i q x → ⊥

module _ (s : Store) (D : Drawing) (table : IsDemandTable s D) where
  calls_is : (p : Pair) (n : Node) → D p ≡ Some n → calls_at D p ≡ n.calls
  calls_is p n is = ap (λ (o : Option Node). option_map_or (λ (n : Node). n.calls) o []) is

  -- the node of a pair calls what its run calls
  same_calls : (p : Pair) (n : Node) → D p ≡ Some n → (v : ℤ) (used : ℕ) (c : CallRecords) → run_name (programs_of s) p.name p.arg ample ≡ (value v used, c) → calls_at D p ≡ direct c
  same_calls p n is v used c ran =
      calls_is p n is
      ∙ ap (λ (e : Entry). e.calls) (same_entry (runs_in_library (programs_of s) p) (node_entry n) _ (table.runs p n is) (entry_with (programs_of s) p v used c ran))

  has_node : (p : Pair) → IsReached (checks_in_store s) (runs_in_library (programs_of s)) p → (n : Node) × (D p ≡ Some n)
  has_node p live = some_is (D p) ((table.live p).1 live)

  -- ---- from the trace of a run to the calls of nodes

  trace_leads : (c : CallRecords) → AreAnswered (programs_of s) ample c → (from : Pair) → IsReached (checks_in_store s) (runs_in_library (programs_of s)) from
      → ((to : Pair) → Contains (direct c) to → Contains (calls_at D from) to) → (p : Pair) → InTrace p.name p.arg c → LeadsTo D from p
  trace_leads none h from live calls p t = absurd t
  trace_leads (call r y o inner rest) h from live calls p (inl e) =
      (0, (pair r y, calls (pair r y) (cons-here (pair r y) (direct rest)), same_parts (pair r y) p (sym e.0) (sym e.1)))
  trace_leads (call r y o inner rest) h from live calls p (inr (inl t)) =
      let called = calls (pair r y) (cons-here (pair r y) (direct rest)) in
      let on = onward from (pair r y) live called in
      let node = has_node (pair r y) on in
      let same = same_calls (pair r y) node.0 node.1 h.0.0 h.0.1 inner h.0.3 in
      let l = trace_leads inner h.1 (pair r y) on (λ to at. subst (λ (l : List Pair). Contains l to) (sym same) at) p t in
      (suc l.0, (pair r y, called, l.1))
    where
      onward : (from to : Pair) → IsReached (checks_in_store s) (runs_in_library (programs_of s)) from → Contains (calls_at D from) to → IsReached (checks_in_store s) (runs_in_library (programs_of s)) to
      onward from to live at =
          let node = has_node from live in
          (suc live.0, (from, live.1, (node_entry node.0, table.runs from node.0 node.1, subst (λ (l : List Pair). Contains l to) (calls_is from node.0 node.1) at)))
  trace_leads (call r y o inner rest) h from live calls p (inr (inr t)) = trace_leads rest h.2 from live (λ to at. calls to (cons-more (pair r y) (direct rest) to at)) p t

  pub demands_leads : (c i q : ℕ) (x : ℤ) → Demands s c i q x → LeadsTo D (pair c (pos i)) (pair q x)
  demands_leads c i q x d =
      let top : Pair = pair c (pos i) in
      let v = table_values s D table c i d.0 d.1 d.2 in
      let calls = (run_name (programs_of s) c (pos i) ample).1 in
      let is : run_name (programs_of s) c (pos i) ample ≡ (value v.0 v.1, calls) = ap (λ (o : Outcome). (o, (run_name (programs_of s) c (pos i) ample).1)) v.2 in
      let live : IsReached (checks_in_store s) (runs_in_library (programs_of s)) top = (0, is_checked_at s top d.0 i d.1 d.2 refl) in
      let node = has_node top live in
      let same = same_calls top node.0 node.1 v.0 v.1 calls is in
      trace_leads calls (answered_name (programs_of s) ample c (pos i) v.0 v.1 calls is) top live (λ to at. subst (λ (l : List Pair). Contains l to) (sym same) at) (pair q x) d.3

  -- ---- and back

  no_calls : (p to : Pair) → D p ≡ None → Contains (calls_at D p) to → ⊥
  no_calls p to is at = nil-cases to (subst (λ (l : List Pair). Contains l to) (ap (λ (o : Option Node). option_map_or (λ (n : Node). n.calls) o []) is) at)

  node_cases : (o : Option Node) → (o ≡ None) ⊎ ((n : Node) × (o ≡ Some n))
  node_cases None = inl refl
  node_cases (Some n) = inr (n, refl)

  called_traced : (p to : Pair) (v : ℤ) (used : ℕ) (c : CallRecords) → run_name (programs_of s) p.name p.arg ample ≡ (value v used, c) → Contains (calls_at D p) to → InTrace to.name to.arg c
  called_traced p to v used c is at = by_node (node_cases (D p))
    where
      by_node : (D p ≡ None) ⊎ ((n : Node) × (D p ≡ Some n)) → InTrace to.name to.arg c
      by_node (inl gone) = absurd (no_calls p to gone at)
      by_node (inr n) = direct_traced c to (subst (λ (l : List Pair). Contains l to) (same_calls p n.0 n.1 v used c is) at)

  leads_trace : (n : ℕ) (p to : Pair) (v : ℤ) (used : ℕ) (c : CallRecords) → run_name (programs_of s) p.name p.arg ample ≡ (value v used, c) → Leads D (suc n) p to → InTrace to.name to.arg c
  leads_trace zero p to v used c is h = subst (λ (z : Pair). InTrace z.name z.arg c) h.2 (called_traced p h.0 v used c is h.1)
  leads_trace (suc n) p to v used c is h =
      let next = traced (programs_of s) ample h.0.name h.0.arg c (answered_name (programs_of s) ample p.name p.arg v used c is) (called_traced p h.0 v used c is h.1) in
      next.1 to.name to.arg (leads_trace n h.0 to next.0.value_of next.0.used next.0.calls next.0.is h.2)

  pub leads_demands : (c i q : ℕ) (x : ℤ) → i < checked_at s c → LeadsTo D (pair c (pos i)) (pair q x) → Demands s c i q x
  leads_demands c i q x lt l =
      let known = is_checked (published_at s c) i lt in
      let v = table_values s D table c i known.0 known.1 known.2 in
      let calls = (run_name (programs_of s) c (pos i) ample).1 in
      let is : run_name (programs_of s) c (pos i) ample ≡ (value v.0 v.1, calls) = ap (λ (o : Outcome). (o, (run_name (programs_of s) c (pos i) ample).1)) v.2 in
      (known.0, known.1, known.2, leads_trace l.0 (pair c (pos i)) (pair q x) v.0 v.1 calls is l.1)

  -- ---- the least caller

  checked_there : (c i q : ℕ) (x : ℤ) → Demands s c i q x → i < checked_at s c
  checked_there c i q x d = subst (λ (o : Option Published). i < checked_in o) (sym d.1) d.2

  module _ (q : ℕ) (x : ℤ) where
    not_there : (c i : ℕ) → published_at s c ≡ None → Demands s c i q x → ⊥
    not_there c i gone d = let e : None ≡ Some d.0 = sym gone ∙ d.1 in cc

    module _ (last name : ℕ) (above : last < name) (between : (c : ℕ) → last < c → c < name → published_at s c ≡ None) (below : NoneUpTo s q x last) where
      before : (c i : ℕ) → c < name → Demands s c i q x → ⊥
      before c i lt d = elim (cases_lt last c) [ inl up ↦ not_there c i (between c up lt) d | inr le ↦ below c i le d ]

      pub none_more : IsFirstLeading D name (checked_at s name) (pair q x) None → NoneUpTo s q x name
      none_more first c i le d = elim (cases_lt c name) [
        | inl lt ↦ before c i lt d
        | inr up ↦
            let e : c ≡ name = omega (arith, le, up) in
            let here = subst (λ (n : ℕ). Demands s n i q x) e d in
            first i (checked_there name i q x here) (demands_leads name i q x here)
      ]

      pub is_least : (index : ℕ) → IsFirstLeading D name (checked_at s name) (pair q x) (Some index) → LeastCaller s q x name index
      is_least index first = (leads_demands name index q x first.0 first.1, others)
        where
          others : (c i : ℕ) → Demands s c i q x → (name < c) ⊎ ((name ≡ c) × (index ≤ i))
          others c i d = elim (cases_lt name c) [
            | inl up ↦ inl up
            | inr le ↦ elim (cases_lt c name) [
              | inl lt ↦ absurd (before c i lt d)
              | inr up ↦
                  let e : name ≡ c = omega (arith, le, up) in
                  inr (
                    e,
                    elim (cases_lt i index) [
                      | inl less ↦ absurd (first.2 i less (demands_leads name i q x (subst (λ (n : ℕ). Demands s n i q x) (sym e) d)))
                      | inr more ↦ more
                    ],
                  )
            ]
          ]

    pub none_at_all : (last : ℕ) → NoneUpTo s q x last → ((c : ℕ) → last < c → published_at s c ≡ None) → InDem s q x → ⊥
    none_at_all last below above d = elim (cases_lt last d.0) [ inl up ↦ not_there d.0 d.1 (above d.0 up) d.2 | inr le ↦ below d.0 d.1 le d.2 ]
