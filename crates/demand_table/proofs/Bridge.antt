-- From the condition of a replacement to that of the table, and from the mended table to that of the next store.
use Rattle.std.proofs.Common.{ℕ, suc, ◌-◌, ◌<◌, ◌≤◌, ◌^◌, ◌≡◌, ◌≢◌, ◌==◌, refl, sym, ap, subst, ◌∙◌, arith, pos, Bool, true, false, inl, inr, List, [], ◌∷◌, Contains}
use Rattle.std.specs.Prelude.{◌⊎◌, ◌≤ℤ◌, ◌<ℤ◌, ◌+ℤ◌, IsSome, if◌then◌else◌}
use Rattle.std.proofs.lemmas.List.Elements.{Contains-append_right}
use Rattle.std.specs.declared.option.Option.{Option}
use Rattle.std.specs.declared.option.Option.TheVariants.{Some, None}
use Rattle.std.specs.Option.{option_map}
use Rattle.loda_syntax.specs.Programs.{Text}
use Rattle.loda_semantics.specs.declared.kinds.Pair.{Pair}
use Rattle.loda_semantics.specs.Exec.{Outcome, Calls, Library, run_name}
use Rattle.loda_semantics.proofs.Laws.{used_within}
use Rattle.program_store.specs.declared.published.Published.{Published}
use Rattle.program_store.specs.Store.{Store, programs_of, put_in}
use Rattle.std.proofs.lemmas.Bool.{cases_eq}
use Rattle.seq_calls.specs.declared.outcomes.NodeRun.{NodeRun}
use Rattle.seq_calls.specs.Frames.{steps_below, pair, direct, nodes_in, nodes_of}
use Rattle.seq_calls.specs.Demand.{ample, InDem}
use Rattle.program_store.proofs.Puts.{put_here, put_elsewhere, published_program}
use Rattle.seq_calls.specs.Runs.{HasValues}
use Rattle.seq_calls.proofs.Bounded.{has_text}
use Rattle.seq_calls.proofs.Members.{members_are_runs}
use Rattle.demand_table.specs.declared.range.Range.{Range}
use Rattle.demand_table.specs.declared.entry.Entry.{Entry}
use Rattle.demand_table.specs.declared.node.Node.{Node}
use Rattle.demand_table.specs.Drawn.{CheckedRanges, Runs, IsChecked, RunCalls as CallsIn, with_range, IsReached, IsClosed, TotalsFit, Drawing, node_entry, IsDrawn}
use Rattle.demand_table.specs.Mended.{run_of, run_at, either, apart_from, mended, Fits, runs_of}
use Rattle.demand_table.specs.Table.{runs_in_library, steps_at, from_zero, checks_in_store, IsDemandTable, AreFramesOf, IsWanted, MayReplace}
use Rattle.demand_table.proofs.Counts.{nil-cases, cons-cases, cons-here}
use Rattle.demand_table.proofs.Counted.{some_is, is_some}
use Rattle.demand_table.proofs.Pairs.{same_parts}
use Rattle.demand_table.proofs.Placing.{same_pair, test_true}
use Rattle.demand_table.proofs.Whole.{frame_at}
use Rattle.demand_table.proofs.Drawings.{live_stands}
use Rattle.demand_table.proofs.Agreeing.{drawn_agree}
use Rattle.demand_table.proofs.Ran.{ran_of, steps_with, frames_are_runs}
use Rattle.demand_table.proofs.Below.{calls_have_values, steps_are_totals}
use Rattle.demand_table.proofs.Live.{place_of, table_values, called_demanded, live_forth}
use Rattle.demand_table.proofs.Others.{others_same}

few : (n : ℕ) → n ≤ ample → n < 2 ^ 64
unfolding ample
few n h = omega arith

-- ---- what a list of frames has of a pair

pub has_frame : (rs : List NodeRun) (r : NodeRun) → Contains rs r → IsSome (run_at rs r.pair)
has_frame [] r at = absurd (nil-cases r at)
has_frame (k ∷ rs) r at = by_part (has_frame rs r) (cons-cases k rs r at)
  where
    either_way : (b : Bool) → IsSome (run_at rs r.pair) → IsSome (if b then Some (run_of k) else run_at rs r.pair)
    either_way true h = refl
    either_way false h = h

    by_part : (Contains rs r → IsSome (run_at rs r.pair)) → (k ≡ r) ⊎ Contains rs r → IsSome (run_at (k ∷ rs) r.pair)
    by_part later (inl e) = subst (λ (b : Bool). IsSome (if b then Some (run_of k) else run_at rs r.pair)) (sym (test_true k.pair r.pair (ap (λ (z : NodeRun). z.pair) e))) refl
    by_part later (inr h) = either_way (same_pair k.pair r.pair) (later h)

-- ---- one of two

pub first_some : (a b : Option Entry) → IsSome a → IsSome (either a b)
first_some (Some e) b h = refl
first_some None b h = cc

pub second_some : (a b : Option Entry) → IsSome b → IsSome (either a b)
second_some (Some e) b h = refl
second_some None b h = h

eq_true : (a b : ℕ) → a ≡ b → (a == b) ≡ true
eq_true a b e = grind arith

eq_false : (a b : ℕ) → a ≢ b → (a == b) ≡ false
eq_false a b e = grind arith

node_parts : (o : Option Node) (e : Entry) → option_map node_entry o ≡ Some e → (n : Node) × (o ≡ Some n) × (node_entry n ≡ e)
node_parts None e h = absurd (let z : None ≡ Some e = h in cc)
node_parts (Some n) e h = (n, refl, cc)

map_some : (o : Option Node) → IsSome o → IsSome (option_map node_entry o)
map_some None h = cc
map_some (Some n) h = refl

module _ (C : CheckedRanges) (q : ℕ) (range : Range) where
  range_here : (n : ℕ) → n ≡ q → with_range C q range n ≡ Some range
  range_here n e = ap (λ (b : Bool). if b then Some range else C n) (eq_true n q e)

  range_elsewhere : (n : ℕ) → n ≢ q → with_range C q range n ≡ C n
  range_elsewhere n e = ap (λ (b : Bool). if b then Some range else C n) (eq_false n q e)

-- ---- what is mended

module _ (R : Runs) (q : ℕ) (runs : List NodeRun) where
  pub frame_stands : (r : NodeRun) → Contains runs r → IsSome (mended R q runs r.pair)
  frame_stands r at = first_some (run_at runs r.pair) (apart_from q R r.pair) (has_frame runs r at)

  apart_same : (p : Pair) → p.name ≢ q → apart_from q R p ≡ R p
  apart_same p other = ap (λ (b : Bool). if b then None else R p) (eq_false p.name q other)

  pub other_stands : (p : Pair) → p.name ≢ q → IsSome (R p) → IsSome (mended R q runs p)
  other_stands p other h = second_some (run_at runs p) (apart_from q R p) (subst IsSome (sym (apart_same p other)) h)

  -- what is mended is a frame, or a run of another name that stood
  pub mended_cases : (p : Pair) (e : Entry) → mended R q runs p ≡ Some e → ((r : NodeRun) × Contains runs r × (r.pair ≡ p) × (run_of r ≡ e)) ⊎ ((p.name ≢ q) × (R p ≡ Some e))
  mended_cases p e h = by_frame (run_at runs p) refl h
    where
      by_name : (p.name ≡ q) ⊎ (p.name ≢ q) → apart_from q R p ≡ Some e → (p.name ≢ q) × (R p ≡ Some e)
      by_name (inl here) k = absurd (let gone : apart_from q R p ≡ None = ap (λ (b : Bool). if b then None else R p) (eq_true p.name q here) in let z : None ≡ Some e = sym gone ∙ k in cc)
      by_name (inr other) k = (other, sym (apart_same p other) ∙ k)

      by_frame : (o : Option Entry) → run_at runs p ≡ o → either o (apart_from q R p) ≡ Some e → ((r : NodeRun) × Contains runs r × (r.pair ≡ p) × (run_of r ≡ e)) ⊎ ((p.name ≢ q) × (R p ≡ Some e))
      by_frame (Some f) is k = inl (frame_at runs p e (is ∙ k))
      by_frame None is k = inr (by_name (cases_eq p.name q) k)

-- ---- the checks of the next store

pub checks_follow : (s : Store) (q : ℕ) (text : Text) (checked n : ℕ) → with_range (checks_in_store s) q (from_zero checked) n ≡ checks_in_store (put_in s q text checked) n
checks_follow s q text checked n = by_name (cases_eq n q)
  where
    by_name : (n ≡ q) ⊎ (n ≢ q) → with_range (checks_in_store s) q (from_zero checked) n ≡ checks_in_store (put_in s q text checked) n
    by_name (inl here) =
        range_here (checks_in_store s) q (from_zero checked) n here
        ∙ sym (ap (checks_in_store (put_in s q text checked)) here ∙ ap (option_map (λ (e : Published). from_zero e.checked)) (put_here s q text checked))
    by_name (inr other) =
        range_elsewhere (checks_in_store s) q (from_zero checked) n other
        ∙ sym (ap (option_map (λ (e : Published). from_zero e.checked)) (put_elsewhere s q text checked n other))

-- ---- the bridge

module _ (s : Store) (q : ℕ) (text : Text) (checked : ℕ) (D : Drawing) (runs : List NodeRun) (table : IsDemandTable s D) (may : MayReplace s q text checked)
    (frames : AreFramesOf (programs_of (put_in s q text checked)) (IsWanted s q checked) runs) where
  -- the programs, the checks and the runs of both sides
  abbrev next : Library
  next = programs_of (put_in s q text checked)

  abbrev checks : CheckedRanges
  checks = with_range (checks_in_store s) q (from_zero checked)

  abbrev now : Runs
  now = mended (runs_of D) q runs

  values : HasValues s
  values = table_values s D table

  wanted_runs : (p : Pair) → IsWanted s q checked p → IsSome (runs_in_library next p)
  wanted_runs p (same, inl c) = subst (λ (z : Pair). IsSome (runs_in_library next z)) (same_parts (pair q (pos c.0)) p (sym same) (sym c.2)) (may.values c.0 c.1)
  wanted_runs p (same, inr d) =
      let h = may.demanded p.arg d in
      subst (λ (z : Pair). IsSome (runs_in_library next z)) (same_parts (pair q p.arg) p (sym same) refl) (is_some (runs_in_library next (pair q p.arg)) h.1 h.3)

  -- a frame is the run of its pair
  frame_run : (r : NodeRun) → Contains runs r → runs_in_library next r.pair ≡ Some (run_of r)
  frame_run r at = let h = frames.only r at in frames_are_runs next h.0 r (wanted_runs h.0 h.1) h.2

  -- each wanted pair has its own frame
  wanted_stands : (p : Pair) → IsWanted s q checked p → IsSome (now p)
  wanted_stands p wanted =
      let known = some_is (runs_in_library next p) (wanted_runs p wanted) in
      let ran = ran_of next p known.0 known.1 in
      let node : NodeRun = record { pair = pair p.name p.arg; value = known.0.value; own = ran.used - steps_below ran.calls; calls = direct ran.calls } in
      let there : Contains (nodes_of p.name p.arg (run_name next p.name p.arg ample)) node =
      subst (λ (z : Outcome × Calls). Contains (nodes_of p.name p.arg z) node) (sym ran.is) (Contains-append_right (nodes_in ran.calls) (node ∷ []) node (cons-here node [])) in
      frame_stands (runs_of D) q runs node (frames.all p wanted node there)

  -- what stood is the run of its pair, and live
  stood : (p : Pair) (e : Entry) → runs_of D p ≡ Some e → (runs_in_library (programs_of s) p ≡ Some e) × IsReached (checks_in_store s) (runs_in_library (programs_of s)) p
  stood p e h =
      let node = node_parts (D p) e h in
      (table.runs p node.0 node.1 ∙ ap Some node.2, (table.live p).0 (is_some (D p) node.0 node.1))

  live_stood : (p : Pair) → IsReached (checks_in_store s) (runs_in_library (programs_of s)) p → IsSome (runs_of D p)
  live_stood p live = map_some (D p) ((table.live p).1 live)

  stood_same : (p : Pair) (e : Entry) → p.name ≢ q → runs_of D p ≡ Some e → runs_in_library next p ≡ Some e
  unfolding values
  stood_same p e other h =
      let old = stood p e h in
      others_same s q text checked may values p (live_forth s values old.1.0 p old.1.1) other ∙ old.0

  -- each mended run is the run of its pair in the next store
  mended_run : (p : Pair) (e : Entry) → now p ≡ Some e → runs_in_library next p ≡ Some e
  mended_run p e h = by_case (mended_cases (runs_of D) q runs p e h)
    where
      by_case : ((r : NodeRun) × Contains runs r × (r.pair ≡ p) × (run_of r ≡ e)) ⊎ ((p.name ≢ q) × (runs_of D p ≡ Some e)) → runs_in_library next p ≡ Some e
      by_case (inl r) = subst (λ (z : Pair). runs_in_library next z ≡ Some (run_of r.0)) r.2 (frame_run r.0 r.1) ∙ ap Some r.3
      by_case (inr old) = stood_same p e old.0 old.1

  -- ---- closed

  named : (p : Pair) → IsSome (now p) → IsSome (checks p.name)
  named p h = by_name (cases_eq p.name q)
    where
      known : (e : Entry) × (now p ≡ Some e)
      known = some_is (now p) h

      by_name : (p.name ≡ q) ⊎ (p.name ≢ q) → IsSome (checks p.name)
      by_name (inl here) = is_some (checks p.name) (from_zero checked) (range_here (checks_in_store s) q (from_zero checked) p.name here)
      by_name (inr other) =
          let e = known in
          let ran = ran_of next p e.0 (mended_run p e.0 e.1) in
          let program = has_text next p.name p.arg e.0.value ample ran.used ran.calls ran.is in
          let old : programs_of s p.name ≡ Some program.0 = sym (ap (option_map (λ (e : Published). e.program)) (put_elsewhere s q text checked p.name other)) ∙ program.1 in
          let there = published_program s p.name program.0 old in
          is_some (checks p.name) (from_zero there.0.checked)
          (range_elsewhere (checks_in_store s) q (from_zero checked) p.name other ∙ ap (option_map (λ (e : Published). from_zero e.checked)) there.1)

  checked_stands : (p : Pair) → IsChecked checks p → IsSome (now p)
  checked_stands p h = by_name (cases_eq p.name q)
    where
      by_name : (p.name ≡ q) ⊎ (p.name ≢ q) → IsSome (now p)
      by_name (inl here) =
          let is : Some (from_zero checked) ≡ Some h.0 = sym (range_here (checks_in_store s) q (from_zero checked) p.name here) ∙ h.1 in
          let same : from_zero checked ≡ h.0 = cc in
          let c = place_of p.arg checked (subst (λ (r : Range). r.first ≤ℤ p.arg) (sym same) h.2) (subst (λ (r : Range). p.arg <ℤ (r.first +ℤ pos r.checked)) (sym same) h.3) in
          wanted_stands p (here, inl c)
      by_name (inr other) =
          other_stands (runs_of D) q runs p other
          (live_stood p (0, (h.0, sym (range_elsewhere (checks_in_store s) q (from_zero checked) p.name other) ∙ h.1, h.2, h.3)))

  -- what a frame calls has a frame
  frame_calls : (r : NodeRun) → Contains runs r → (to : Pair) → Contains r.calls to → IsSome (now to)
  frame_calls r at to called =
      let h = frames.only r at in
      let known = some_is (runs_in_library next h.0) (wanted_runs h.0 h.1) in
      let ran = ran_of next h.0 known.0 known.1 in
      let node = (members_are_runs next h.0.name h.0.arg known.0.value ample ran.used ran.calls ran.is r h.2).1 to called in
      subst (λ (z : Pair). IsSome (now z)) node.2 (frame_stands (runs_of D) q runs node.0 (frames.all h.0 h.1 node.0 node.1))

  -- what a run that stood calls stands, or is demanded of the name
  stood_calls : (from to : Pair) (e : Entry) → runs_of D from ≡ Some e → Contains e.calls to → IsSome (now to)
  unfolding values
  stood_calls from to e h called = by_name (cases_eq to.name q)
    where
      old : (runs_in_library (programs_of s) from ≡ Some e) × IsReached (checks_in_store s) (runs_in_library (programs_of s)) from
      old = stood from e h

      by_name : (to.name ≡ q) ⊎ (to.name ≢ q) → IsSome (now to)
      by_name (inl here) =
          let k = old in
          let d = called_demanded s values from to (live_forth s values k.1.0 from k.1.1) (e, k.0, called) in
          wanted_stands to (here, inr (subst (λ (n : ℕ). InDem s n to.arg) here d))
      by_name (inr other) = let k = old in other_stands (runs_of D) q runs to other (live_stood to (suc k.1.0, (from, k.1.1, (e, k.0, called))))

  called_stands : (from to : Pair) → CallsIn now from to → IsSome (now to)
  called_stands from to h = by_case (mended_cases (runs_of D) q runs from h.0 h.1)
    where
      by_case : ((r : NodeRun) × Contains runs r × (r.pair ≡ from) × (run_of r ≡ h.0)) ⊎ ((from.name ≢ q) × (runs_of D from ≡ Some h.0)) → IsSome (now to)
      by_case (inl r) = frame_calls r.0 r.1 to (subst (λ (z : Entry). Contains z.calls to) (sym r.3) h.2)
      by_case (inr o) = stood_calls from to h.0 o.1 h.2

  closed : IsClosed checks now
  closed = record {
    named = named;
    checked = checked_stands;
    called = called_stands;
    no_cycle = (steps_at next, λ from to h. (calls_have_values next from to (h.0, mended_run from h.0 h.1, h.2)).1);
  }

  -- ---- the totals

  bounded : (p : Pair) (e : Entry) → runs_in_library next p ≡ Some e → steps_at next p < 2 ^ 64
  bounded p e h =
      let ran = ran_of next p e h in
      let le : ran.used ≤ ample = used_within next (suc ample) (next p.name) p.arg ample e.value ran.used ran.calls ran.is in
      subst (λ (n : ℕ). n < 2 ^ 64) (sym (steps_with next p e.value ran.used ran.calls ran.is)) (few ran.used le)

  totals : TotalsFit checks now
  totals = (
    steps_at next,
    (λ p e h. steps_are_totals next p e (mended_run p e h)),
    λ p live.
        let known = some_is (now p) (live_stands checks now p closed live) in
        bounded p known.0 (mended_run p known.0 known.1),
  )

  -- ---- frames

  alike : (a b : NodeRun) → Contains runs a → Contains runs b → a.pair ≡ b.pair → a ≡ b
  alike a b at bt e =
      let both : Some (run_of a) ≡ Some (run_of b) = sym (frame_run a at) ∙ ap (runs_in_library next) e ∙ frame_run b bt in
      let same : run_of a ≡ run_of b = cc in
      λ i. record { pair = e i; value = (same i).value; own = (same i).own; calls = (same i).calls }

  standing : (a : NodeRun) (e : Entry) → Contains runs a → (a.pair.name ≡ q → ⊥) → runs_of D a.pair ≡ Some e → run_of a ≡ e
  standing a e at other h =
      let both : Some (run_of a) ≡ Some e = sym (frame_run a at) ∙ stood_same a.pair e other h in
      cc

  pub gives_fits : Fits (checks_in_store s) (runs_of D) q (from_zero checked) runs
  gives_fits = record { alike = alike; standing = standing; closed = closed; totals = totals }

  -- ---- the next table

  pub gives_table : (E : Drawing) → IsDrawn checks now E → IsDemandTable (put_in s q text checked) E
  gives_table E drawn =
      subst (λ (c : CheckedRanges). IsDrawn c (runs_in_library next) E) (λ i n. checks_follow s q text checked n i) (drawn_agree checks now (runs_in_library next) closed mended_run E drawn)
