-- What is gathered are live runs of the store, and with each its callees.
use Rattle.std.proofs.Common.{ℕ, suc, ◌+◌, ◌-◌, ◌<◌, ◌≤◌, ◌^◌, ◌≡◌, refl, sym, ap, subst, ◌∙◌, arith, ℤ, pos, inl, inr, List, [], ◌∷◌, ◌++◌, Contains}
use Rattle.std.specs.Prelude.{◌⊎◌, IsSome}
use Rattle.std.proofs.lemmas.Bool.{cases_lt}
use Rattle.std.proofs.lemmas.List.Elements.{Contains-append_right, Contains-append_cases}
use Rattle.std.specs.declared.option.Option.{Option}
use Rattle.std.specs.declared.option.Option.TheVariants.{Some, None}
use Rattle.loda_semantics.specs.declared.kinds.Pair.{Pair}
use Rattle.loda_semantics.specs.Exec.{Outcome, value, fault, out, Calls as CallRecords, none, call, run_name}
use Rattle.loda_semantics.proofs.Laws.{used_within}
use Rattle.program_store.specs.declared.published.Published.{Published}
use Rattle.text_parts.specs.Names.{IsName}
use Rattle.program_store.specs.Store.{Store, published_at, programs_of, checked_in, checked_at}
use Rattle.seq_calls.specs.declared.outcomes.NodeRun.{NodeRun}
use Rattle.seq_calls.specs.Frames.{steps_below, pair, direct, node_of, nodes_in, nodes_of}
use Rattle.seq_calls.specs.Demand.{InTrace, ample}
use Rattle.seq_calls.specs.Runs.{HasRun, HasValues}
use Rattle.seq_calls.proofs.Relied.{is_checked}
use Rattle.seq_calls.proofs.Bounded.{with_steps}
use Rattle.seq_calls.proofs.Members.{members_are_runs}
use Rattle.demand_table.specs.declared.entry.Entry.{Entry}
use Rattle.demand_table.specs.declared.gathering.Gathered.{Gathered}
use Rattle.demand_table.specs.Drawn.{RunCalls, IsReached}
use Rattle.demand_table.specs.Gathered.{AreLiveRuns, IsFresh, HasRunAt, KeepsRuns, HasFirstRuns, HasRunsUpTo}
use Rattle.demand_table.specs.Loaded.{Folders}
use Rattle.demand_table.specs.Mended.{run_of, run_at, either}
use Rattle.demand_table.specs.Mending.{IsMending}
use Rattle.demand_table.specs.Nodes.{HasCheckedValues}
use Rattle.demand_table.specs.Reaching.{Index, Grows, HasRuns}
use Rattle.demand_table.specs.Table.{runs_in_library, checks_in_store}
use Rattle.demand_table.specs.Upward.{names_filed_under}
use Rattle.demand_table.specs.Work.{Slots, runs_in}
use Rattle.demand_table.proofs.Counts.{nil-cases, cons-cases, cons-here}
use Rattle.demand_table.proofs.Counted.{some_is, is_some}
use Rattle.demand_table.proofs.Whole.{frame_at}
use Rattle.demand_table.proofs.Ran.{entry_with, frames_are_runs}
use Rattle.demand_table.proofs.Live.{is_checked_at, demanded_live, live_back}
use Rattle.demand_table.proofs.Bridge.{has_frame, first_some, second_some}

-- ---- the frames of a run are of calls in its trace, or its own

node_met : (q : ℕ) (x : ℤ) (o : Outcome) (c : CallRecords) (r : NodeRun) → Contains (node_of q x o c) r → pair q x ≡ r.pair
node_met q x (value v n) c r at = by_case (cons-cases (record { pair = pair q x; value = v; own = n - steps_below c; calls = direct c }) [] r at)
  where
    by_case : (record { pair = pair q x; value = v; own = n - steps_below c; calls = direct c } ≡ r) ⊎ Contains [] r → pair q x ≡ r.pair
    by_case (inl e) = ap (λ (z : NodeRun). z.pair) e
    by_case (inr k) = absurd (nil-cases r k)
node_met q x (fault k n) c r at = absurd (nil-cases r at)
node_met q x (out n) c r at = absurd (nil-cases r at)

traced_parts : (q : ℕ) (x : ℤ) (o : Outcome) (inner rest : CallRecords) (r : NodeRun) → (Contains (nodes_in inner) r → InTrace r.pair.name r.pair.arg inner) → (Contains (nodes_in rest) r → InTrace r.pair.name r.pair.arg rest)
    → Contains ((nodes_in inner ++ node_of q x o inner) ++ nodes_in rest) r → InTrace r.pair.name r.pair.arg (call q x o inner rest)
traced_parts q x o inner rest r in_inner in_rest at = by_rest (Contains-append_cases (nodes_in inner ++ node_of q x o inner) (nodes_in rest) r at)
  where
    by_inner : Contains (nodes_in inner) r ⊎ Contains (node_of q x o inner) r → InTrace r.pair.name r.pair.arg (call q x o inner rest)
    by_inner (inl k) = inr (inl (in_inner k))
    by_inner (inr k) = let e = node_met q x o inner r k in inl (sym (ap (λ (p : Pair). p.name) e), sym (ap (λ (p : Pair). p.arg) e))

    by_rest : Contains (nodes_in inner ++ node_of q x o inner) r ⊎ Contains (nodes_in rest) r → InTrace r.pair.name r.pair.arg (call q x o inner rest)
    by_rest (inl k) = by_inner (Contains-append_cases (nodes_in inner) (node_of q x o inner) r k)
    by_rest (inr k) = inr (inr (in_rest k))

frame_traced : (c : CallRecords) (r : NodeRun) → Contains (nodes_in c) r → InTrace r.pair.name r.pair.arg c
frame_traced none r at = absurd (nil-cases r at)
frame_traced (call q x o inner rest) r at = traced_parts q x o inner rest r (frame_traced inner r) (frame_traced rest r) at

-- ---- the frames that are put in

abbrev last_of : List NodeRun → NodeRun → NodeRun
last_of [] r = r
last_of (x ∷ xs) r = last_of xs x

last_is : (xs : List NodeRun) (r d : NodeRun) → last_of (xs ++ r ∷ []) d ≡ r
last_is [] r d = refl
last_is (x ∷ xs) r d = last_is xs r x

same_last : (xs ys : List NodeRun) (a b : NodeRun) → xs ++ a ∷ [] ≡ ys ++ b ∷ [] → a ≡ b
same_last xs ys a b e = sym (last_is xs a a) ∙ ap (λ (l : List NodeRun). last_of l a) e ∙ last_is ys b a

only : (frames : List NodeRun) (own r : NodeRun) → frames ≡ own ∷ [] → Contains frames r → own ≡ r
only frames own r e at = elim (cons-cases own [] r (subst (λ (l : List NodeRun). Contains l r) e at)) [
  | inl same ↦ same
  | inr k ↦ absurd (nil-cases r k)
]

module _ (old : Slots) (all frames : List NodeRun) (fresh : IsFresh old all frames) where
  among : (r : NodeRun) → Contains frames r → Contains all r
  among r at = elim fresh [
    | inl e ↦ subst (λ (l : List NodeRun). Contains l r) e at
    | inr f ↦ subst (λ (l : List NodeRun). Contains l r) (sym f.1.1) (Contains-append_right f.1.0 frames r at)
  ]

  called_there : (r : NodeRun) → Contains frames r → (node : NodeRun) (to : Pair) → Contains all node → Contains r.calls to → Contains frames node ⊎ IsSome (old to).entry
  called_there r at node to here called = elim fresh [
    | inl e ↦ inl (subst (λ (l : List NodeRun). Contains l node) (sym e) here)
    | inr f ↦ inr (f.0.stand to (subst (λ (z : NodeRun). Contains z.calls to) (sym (only frames f.0.own r f.0.only at)) called))
  ]

  last_there : (front : List NodeRun) (own : NodeRun) → all ≡ front ++ own ∷ [] → Contains frames own
  last_there front own is = elim fresh [
    | inl e ↦ subst (λ (l : List NodeRun). Contains l own) (sym (e ∙ is)) (Contains-append_right front (own ∷ []) own (cons-here own []))
    | inr f ↦
        let same : f.0.own ≡ own = same_last f.1.0 front f.0.own own (ap (λ (l : List NodeRun). f.1.0 ++ l) (sym f.0.only) ∙ sym f.1.1 ∙ is) in
        subst (λ (l : List NodeRun). Contains l own) (sym f.0.only) (subst (λ (z : NodeRun). Contains (z ∷ []) own) (sym same) (cons-here own []))
  ]

-- ---- the checked runs of a store

few : (limit : ℕ) → limit < 2 ^ 64 → limit ≤ ample
unfolding ample
few limit h = omega arith

entry_cases : (o : Option Entry) → (o ≡ None) ⊎ ((e : Entry) × (o ≡ Some e))
entry_cases None = inl refl
entry_cases (Some e) = inr (e, refl)

module _ (s : Store) (limit : ℕ) (fits : limit < 2 ^ 64) (checked : HasCheckedValues s limit) where
  -- the run of a checked argument within the limit
  pub limited_run : (q i : ℕ) → i < checked_at s q → HasRun (programs_of s) limit q (pos i)
  limited_run q i lt =
      let v = checked q i lt in
      record { value_of = v.0; used = v.1; calls = (run_name (programs_of s) q (pos i) limit).1; is = ap (λ (o : Outcome). (o, (run_name (programs_of s) q (pos i) limit).1)) v.2 }

  -- and with ample steps
  pub ample_run : (q i : ℕ) (lt : i < checked_at s q) → run_name (programs_of s) q (pos i) ample ≡ (value (limited_run q i lt).value_of (limited_run q i lt).used, (limited_run q i lt).calls)
  ample_run q i lt =
      let ran = limited_run q i lt in
      let within : ran.used ≤ limit = used_within (programs_of s) (suc limit) (programs_of s q) (pos i) limit ran.value_of ran.used ran.calls ran.is in
      with_steps (programs_of s) q (pos i) ran.value_of limit ample ran.used ran.calls ran.is (let l = few limit fits in omega (arith, within, l))

  pub same_run : (q i : ℕ) → i < checked_at s q → run_name (programs_of s) q (pos i) limit ≡ run_name (programs_of s) q (pos i) ample
  same_run q i lt = (limited_run q i lt).is ∙ sym (ample_run q i lt)

  pub checked_values : HasValues s
  checked_values q i e there lt =
      let within : i < checked_at s q = subst (λ (o : Option Published). i < checked_in o) (sym there) lt in
      let ran = limited_run q i within in
      (ran.value_of, ran.used, ap (λ (z : Outcome × CallRecords). z.0) (ample_run q i within))

  module _ (q i : ℕ) (lt : i < checked_at s q) where
    entry : (e : Published) × (published_at s q ≡ Some e) × (i < e.checked)
    entry = is_checked (published_at s q) i lt

    -- a frame of a checked run is live
    frame_live : (r : NodeRun) → Contains (nodes_of q (pos i) (run_name (programs_of s) q (pos i) ample)) r → IsReached (checks_in_store s) (runs_in_library (programs_of s)) r.pair
    unfolding entry
    frame_live r at = by_part (Contains-append_cases (nodes_in c) (node_of q (pos i) (run_name (programs_of s) q (pos i) ample).0 c) r at)
      where
        c : CallRecords
        c = (run_name (programs_of s) q (pos i) ample).1

        by_part : Contains (nodes_in c) r ⊎ Contains (node_of q (pos i) (run_name (programs_of s) q (pos i) ample).0 c) r → IsReached (checks_in_store s) (runs_in_library (programs_of s)) r.pair
        by_part (inl k) =
            live_back s checked_values r.pair (demanded_live s checked_values r.pair (q, i, (entry.0, entry.1, entry.2, frame_traced c r k)))
        by_part (inr k) =
            subst (IsReached (checks_in_store s) (runs_in_library (programs_of s))) (node_met q (pos i) (run_name (programs_of s) q (pos i) ample).0 c r k)
            (0, is_checked_at s (pair q (pos i)) entry.0 i entry.1 entry.2 refl)

    has_run : IsSome (runs_in_library (programs_of s) (pair q (pos i)))
    has_run =
        let ran = limited_run q i lt in
        is_some (runs_in_library (programs_of s) (pair q (pos i))) _ (entry_with (programs_of s) (pair q (pos i)) ran.value_of ran.used ran.calls (ample_run q i lt))

    -- ---- one more run

    module _ (old new : Slots) (callers grown : Index) (pairs now : List Pair) (stand many : ℕ) (all frames : List NodeRun)
        (are : all ≡ nodes_of q (pos i) (run_name (programs_of s) q (pos i) ample)) (fresh : IsFresh old all frames)
        (h : AreLiveRuns s old callers (Contains pairs) stand) (mending : IsMending old new frames pairs now many) (grows : Grows callers grown) (has : HasRuns grown frames) where
      in_run : (r : NodeRun) → Contains frames r → Contains (nodes_of q (pos i) (run_name (programs_of s) q (pos i) ample)) r
      in_run r at = subst (λ (l : List NodeRun). Contains l r) are (among old all frames fresh r at)

      pub keeps_runs : (p : Pair) → IsSome (old p).entry → IsSome (new p).entry
      keeps_runs p there = subst IsSome (sym (mending.entry p)) (first_some (old p).entry (run_at frames p) there)

      frame_there : (r : NodeRun) → Contains frames r → IsSome (new r.pair).entry
      frame_there r at = subst IsSome (sym (mending.entry r.pair)) (second_some (old r.pair).entry (run_at frames r.pair) (has_frame frames r at))

      -- a run that stands stood before, or is a frame's
      stands_by : (p : Pair) (e : Entry) → (new p).entry ≡ Some e → ((old p).entry ≡ Some e) ⊎ ((r : NodeRun) × Contains frames r × (r.pair ≡ p) × (run_of r ≡ e))
      stands_by p e is = by_old (entry_cases (old p).entry)
        where
          now_is : either (old p).entry (run_at frames p) ≡ Some e
          now_is = sym (mending.entry p) ∙ is

          by_old : ((old p).entry ≡ None) ⊎ ((f : Entry) × ((old p).entry ≡ Some f)) → ((old p).entry ≡ Some e) ⊎ ((r : NodeRun) × Contains frames r × (r.pair ≡ p) × (run_of r ≡ e))
          by_old (inl gone) = inr (frame_at frames p e (ap (λ (o : Option Entry). either o (run_at frames p)) (sym gone) ∙ now_is))
          by_old (inr there) = inl (there.1 ∙ ap (λ (o : Option Entry). either o (run_at frames p)) (sym there.1) ∙ now_is)

      within : (p : Pair) (e : Entry) → (new p).entry ≡ Some e → runs_in_library (programs_of s) p ≡ Some e
      within p e is = by_case (stands_by p e is)
        where
          by_case : ((old p).entry ≡ Some e) ⊎ ((r : NodeRun) × Contains frames r × (r.pair ≡ p) × (run_of r ≡ e)) → runs_in_library (programs_of s) p ≡ Some e
          by_case (inl o) = h.within p e o
          by_case (inr r) =
              subst (λ (z : Pair). runs_in_library (programs_of s) z ≡ Some (run_of r.0)) r.2 (frames_are_runs (programs_of s) (pair q (pos i)) r.0 has_run (in_run r.0 r.1)) ∙ ap Some r.3

      live : (p : Pair) → IsSome (new p).entry → IsReached (checks_in_store s) (runs_in_library (programs_of s)) p
      live p there = let known = some_is (new p).entry there in by_case known.0 (stands_by p known.0 known.1)
        where
          by_case : (e : Entry) → ((old p).entry ≡ Some e) ⊎ ((r : NodeRun) × Contains frames r × (r.pair ≡ p) × (run_of r ≡ e)) → IsReached (checks_in_store s) (runs_in_library (programs_of s)) p
          by_case e (inl o) = h.live p (is_some (old p).entry e o)
          by_case e (inr r) = subst (IsReached (checks_in_store s) (runs_in_library (programs_of s))) r.2 (frame_live r.0 (in_run r.0 r.1))

      closed : (from to : Pair) → RunCalls (runs_in new) from to → IsSome (new to).entry
      closed from to k = by_case (stands_by from k.0 k.1)
        where
          by_case : ((old from).entry ≡ Some k.0) ⊎ ((r : NodeRun) × Contains frames r × (r.pair ≡ from) × (run_of r ≡ k.0)) → IsSome (new to).entry
          by_case (inl o) = keeps_runs to (h.closed from to (k.0, o, k.2))
          by_case (inr r) =
              let ran = limited_run q i lt in
              let called : Contains r.0.calls to = subst (λ (z : Entry). Contains z.calls to) (sym r.3) k.2 in
              let node = (members_are_runs (programs_of s) q (pos i) ran.value_of ample ran.used ran.calls (ample_run q i lt) r.0 (in_run r.0 r.1)).1 to called in
              let at : Contains all node.0 = subst (λ (l : List NodeRun). Contains l node.0) (sym are) node.1 in
              elim (called_there old all frames fresh r.0 r.1 node.0 to at called) [
                | inl frame ↦ subst (λ (z : Pair). IsSome (new z).entry) node.2 (frame_there node.0 frame)
                | inr there ↦ keeps_runs to there
              ]

      covers : (from to : Pair) → RunCalls (runs_in new) from to → IsName to.name → Contains (names_filed_under grown to.name) from.name
      covers from to k named = by_case (stands_by from k.0 k.1)
        where
          by_case : ((old from).entry ≡ Some k.0) ⊎ ((r : NodeRun) × Contains frames r × (r.pair ≡ from) × (run_of r ≡ k.0)) → Contains (names_filed_under grown to.name) from.name
          by_case (inl o) = grows to.name from.name (h.covers from to (k.0, o, k.2) named)
          by_case (inr r) =
              subst (λ (z : Pair). Contains (names_filed_under grown to.name) z.name) r.2
              (has r.0 r.1 to (subst (λ (z : Entry). Contains z.calls to) (sym r.3) k.2) named)

      listed : (p : Pair) → IsSome (new p).entry → Contains now p
      listed p there = let known = some_is (new p).entry there in by_case known.0 (stands_by p known.0 known.1)
        where
          by_case : (e : Entry) → ((old p).entry ≡ Some e) ⊎ ((r : NodeRun) × Contains frames r × (r.pair ≡ p) × (run_of r ≡ e)) → Contains now p
          by_case e (inl o) = mending.keeps p (h.listed p (is_some (old p).entry e o))
          by_case e (inr r) = subst (Contains now) r.2 (mending.joins r.0.pair (has_frame frames r.0 r.1))

      pub one_more_run : AreLiveRuns s new grown (Contains now) many
      one_more_run = record {
        within = within;
        live = live;
        closed = closed;
        covers = covers;
        counted = mending.counted;
        many = mending.many;
        listed = listed;
        settled = λ p u. h.settled p (mending.known p u);
      }

      -- the run itself stands
      pub run_there : IsSome (new (pair q (pos i))).entry
      run_there =
          let ran = limited_run q i lt in
          let own : NodeRun = record { pair = pair q (pos i); value = ran.value_of; own = ran.used - steps_below ran.calls; calls = direct ran.calls } in
          let last : all ≡ nodes_in ran.calls ++ own ∷ [] = are ∙ ap (λ (z : Outcome × CallRecords). nodes_of q (pos i) z) (ample_run q i lt) in
          frame_there own (last_there old all frames fresh (nodes_in ran.calls) own last)

-- ---- argument by argument, and name by name

pub first_runs_more : (f : Folders) (old new : Gathered) (name index : ℕ) → KeepsRuns f old new → HasRunAt f new (pair name (pos index)) → HasFirstRuns f old name index → HasFirstRuns f new name (index + 1)
first_runs_more f old new name index keeps here h i lt = elim (cases_lt i index) [
  | inl less ↦ keeps (pair name (pos i)) (h i less)
  | inr more ↦ let e : index ≡ i = omega (arith, lt, more) in subst (λ (n : ℕ). HasRunAt f new (pair name (pos n))) e here
]

pub runs_up_to_more : (s : Store) (f : Folders) (old new : Gathered) (last name : ℕ) → KeepsRuns f old new → ((q : ℕ) → last < q → q < name → published_at s q ≡ None)
    → HasFirstRuns f new name (checked_at s name) → HasRunsUpTo s f old last → HasRunsUpTo s f new name
runs_up_to_more s f old new last name keeps between here h q low le i lt = elim (cases_lt last q) [
  | inl up ↦ elim (cases_lt q name) [
    | inl less ↦ absurd (let e : checked_at s q ≡ 0 = ap checked_in (between q up less) in omega (arith, lt, e))
    | inr more ↦ let e : name ≡ q = omega (arith, le, more) in subst (λ (n : ℕ). (i : ℕ) → i < checked_at s n → HasRunAt f new (pair n (pos i))) e here i lt
  ]
  | inr below ↦ keeps (pair q (pos i)) (h q low below i lt)
]
