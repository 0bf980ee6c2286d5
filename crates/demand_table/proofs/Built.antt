-- The table of a store, from the runs that were gathered.
use Rattle.std.proofs.Common.{ℕ, ◌<◌, ◌≡◌, refl, sym, subst, ◌∙◌, pos, List, Contains}
use Rattle.std.specs.Prelude.{IsSome}
use Rattle.std.specs.declared.option.Option.{Option}
use Rattle.std.specs.declared.option.Option.TheVariants.{Some, None}
use Rattle.std.specs.FinMap as map
use Rattle.loda_semantics.specs.declared.kinds.Pair.{Pair}
use Rattle.program_store.specs.declared.published.Published.{Published}
use Rattle.text_parts.specs.Names.{IsName}
use Rattle.program_store.specs.Store.{Store, IsStore, published_at, programs_of, checked_in, checked_at}
use Rattle.seq_calls.specs.Frames.{pair}
use Rattle.seq_calls.specs.Runs.{HasValues}
use Rattle.demand_table.specs.declared.entry.Entry.{Entry}
use Rattle.demand_table.specs.declared.work.Work.{Work}
use Rattle.demand_table.specs.Drawn.{CheckedRanges, Runs, IsChecked, RunCalls, IsClosed, TotalsFit, node_entry, IsDrawn}
use Rattle.demand_table.specs.Filed.{IsWrittenDown}
use Rattle.demand_table.specs.Gathered.{IsUndrawn, AreLiveRuns}
use Rattle.demand_table.specs.Held.{Covers, IsHeld}
use Rattle.demand_table.specs.Loaded.{Folders, slots_of, node_at, checks_of}
use Rattle.demand_table.specs.Mended.{drawing_of}
use Rattle.demand_table.specs.Mending.{IsForgetting}
use Rattle.demand_table.specs.Reaching.{Index}
use Rattle.demand_table.specs.Settling.{IsUnsettled, CanSettle, Settles}
use Rattle.demand_table.specs.Table.{runs_in_library, steps_at, checks_in_store}
use Rattle.demand_table.specs.Tabled.{IsTabled}
use Rattle.demand_table.specs.Work.{Slots, runs_in, IsDropped}
use Rattle.demand_table.proofs.Counted.{some_is, is_some}
use Rattle.demand_table.proofs.Pairs.{same_parts}
use Rattle.demand_table.proofs.Drawings.{live_stands, drawn_from}
use Rattle.demand_table.proofs.Agreeing.{live_down, drawn_agree}
use Rattle.demand_table.proofs.Whole.{dropped_same, many_last}
use Rattle.demand_table.proofs.Filing.{has_folder}
use Rattle.demand_table.proofs.Holds.{all_nodes, drawn_next, drawn_own, count_next}
use Rattle.demand_table.proofs.Below.{calls_have_values}
use Rattle.demand_table.proofs.Live.{range_some, checked_of}
use Rattle.demand_table.proofs.Closed.{store_closed, store_totals}

no_total : (o : Option ℕ) (t : ℕ) → o ≡ None → o ≡ Some t → ⊥
no_total o t e f = let g : None ≡ Some t = sym e ∙ f in cc

module _ (s : Store) (values : HasValues s) (w w4 : Slots) (callers : Index) (pairs listed : List Pair) (stand many : ℕ)
    (h : AreLiveRuns s w callers (Contains pairs) stand) (all : (name i : ℕ) → i < checked_at s name → IsSome (w (pair name (pos i))).entry)
    (forgot : IsForgetting w w4 pairs listed many) where
  -- the checks and the runs of the store
  abbrev checks : CheckedRanges
  checks = checks_in_store s

  abbrev runs : Runs
  runs = runs_in_library (programs_of s)

  in_store : (p : Pair) → IsSome (w p).entry → IsSome (runs p)
  in_store p there = let known = some_is (w p).entry there in is_some (runs p) known.0 (h.within p known.0 known.1)

  checked_stands : (p : Pair) → IsChecked checks p → IsSome (w p).entry
  checked_stands p c =
      let k = checked_of s p c in
      let lt : k.2.0 < checked_at s p.name = subst (λ (o : Option Published). k.2.0 < checked_in o) (sym k.1) k.2.1 in
      subst (λ (z : Pair). IsSome (w z).entry) (same_parts (pair p.name (pos k.2.0)) p refl (sym k.2.2)) (all p.name k.2.0 lt)

  pub closed : IsClosed checks (runs_in w)
  closed = record {
    named = λ p there. (store_closed s values).named p (in_store p there);
    checked = checked_stands;
    called = h.closed;
    no_cycle = (steps_at (programs_of s), λ from to k. (calls_have_values (programs_of s) from to (k.0, h.within from k.0 k.1, k.2)).1);
  }

  -- a run that stands is one of the store's, also after totals were forgotten
  still : (p : Pair) (e : Entry) → (w4 p).entry ≡ Some e → runs p ≡ Some e
  still p e is = h.within p e (sym (forgot.entry p) ∙ is)

  stood : (p : Pair) → IsSome (w4 p).entry → IsSome (w p).entry
  stood p there = subst IsSome (forgot.entry p) there

  fit : TotalsFit checks runs
  fit = store_totals s values

  pub can : CanSettle w4
  unfolding fit
  can = record {
    total = fit.0;
    rank = steps_at (programs_of s);
    sums = λ p e is. fit.1 p e (still p e is);
    fit = λ p there. fit.2 p (h.live p (stood p there));
    closed = λ from to k. subst IsSome (sym (forgot.entry to)) (h.closed from to (k.0, sym (forgot.entry from) ∙ k.1, k.2));
    falls = λ from to k. (calls_have_values (programs_of s) from to (k.0, still from k.0 k.1, k.2)).1;
    right = λ p t there is. absurd (no_total (w4 p).total t (forgot.gone p (h.listed p (stood p there)) there) is);
  }

  dropped : IsDropped checks (runs_in w) w stand
  dropped = record {
    within = λ p e is. is;
    kept = λ p live. live_stands checks (runs_in w) p closed live;
    live = λ p there. let l = h.live p there in (l.0, live_down checks (runs_in w) runs closed h.within l.0 p l.1);
    counted = h.counted;
    many = h.many;
  }

  module _ (w5 : Slots) (settles : Settles w4 w5) (can5 : CanSettle w5) (known : (q : Pair) → IsUnsettled w5 q → ⊥) where
    last : IsDropped checks (runs_in w) w5 stand
    last = dropped_same checks (runs_in w) w w5 stand (λ q. settles.entry q ∙ forgot.entry q) (λ q. settles.callers q ∙ forgot.callers q) dropped

    drawn : IsDrawn checks (runs_in w) (drawing_of w5)
    drawn = drawn_from checks (runs_in w) w5 stand last can5 known

    table : IsDrawn checks runs (drawing_of w5)
    table = drawn_agree checks (runs_in w) runs closed h.within (drawing_of w5) drawn

    module _ (kept : IsStore s) (folders next : Folders) (work : Work) (undrawn : IsUndrawn s folders) (is : slots_of folders work ≡ w5) (written : IsWrittenDown folders next work) where
      checks_next : (q : ℕ) → checks_of next q ≡ checks q
      checks_next q = written.checks q ∙ undrawn.checks q

      nodes_next : (p : Pair) → IsSome (checks p.name) → node_at next p ≡ drawing_of w5 p
      nodes_next p there =
          subst (λ (z : Slots). node_at next p ≡ drawing_of z p) is
          (written.nodes p (has_folder (map.get folders p.name) (subst IsSome (sym (undrawn.checks p.name)) there)))

      pub tabled_next : IsTabled s next
      tabled_next = record {
        kept = kept;
        checks = checks_next;
        table = drawn_next checks runs (drawing_of w5) (store_closed s values) table next checks_next nodes_next;
      }

      has_name : (p : Pair) → IsSome (w p).entry → IsName p.name
      has_name p there =
          let range = some_is (checks p.name) ((store_closed s values).named p (in_store p there)) in
          let published = range_some (published_at s p.name) range.0 range.1 in
          kept.named p.name published.0 published.1

      covers : Covers callers next
      covers p to n at called =
          let drawn_at = sym (all_nodes checks runs (drawing_of w5) (store_closed s values) table next checks_next nodes_next p) ∙ at in
          let k : RunCalls (runs_in w) p to = (node_entry n, drawn.runs p n drawn_at, called) in
          h.covers p to k (has_name to (h.closed p to k))

      pub held_next : IsHeld next callers stand
      held_next = record {
        drawn = drawn_own checks runs (drawing_of w5) (store_closed s values) table next checks_next nodes_next;
        ascend = written.ascend undrawn.ascend;
        count = count_next checks runs (drawing_of w5) (store_closed s values) table next checks_next nodes_next stand (many_last checks (runs_in w) w5 stand last);
        covers = covers;
      }
