-- The runs of a store whose checked runs have values are closed, and their totals are numbers of 64 bits.
use Rattle.std.proofs.Common.{ℕ, suc, ◌<◌, ◌≤◌, ◌^◌, refl, sym, ap, subst, arith, pos}
use Rattle.std.specs.Prelude.{IsSome}
use Rattle.std.specs.Option.{option_map}
use Rattle.loda_semantics.specs.declared.kinds.Pair.{Pair}
use Rattle.loda_semantics.specs.Exec.{Outcome, run_name}
use Rattle.loda_semantics.proofs.Laws.{used_within}
use Rattle.program_store.specs.declared.published.Published.{Published}
use Rattle.program_store.specs.Store.{Store, programs_of}
use Rattle.seq_calls.specs.Frames.{pair}
use Rattle.seq_calls.specs.Demand.{ample}
use Rattle.seq_calls.specs.Runs.{HasValues}
use Rattle.program_store.proofs.Puts.{published_program}
use Rattle.seq_calls.proofs.Bounded.{has_text}
use Rattle.demand_table.specs.Drawn.{IsChecked, IsClosed, TotalsFit}
use Rattle.demand_table.specs.Table.{runs_in_library, steps_at, from_zero, checks_in_store}
use Rattle.demand_table.proofs.Counted.{some_is, is_some}
use Rattle.demand_table.proofs.Pairs.{same_parts}
use Rattle.demand_table.proofs.Drawings.{live_stands}
use Rattle.demand_table.proofs.Ran.{ran_of, entry_with, steps_with}
use Rattle.demand_table.proofs.Below.{calls_have_values, steps_are_totals}
use Rattle.demand_table.proofs.Live.{checked_of}

few : (n : ℕ) → n ≤ ample → n < 2 ^ 64
unfolding ample
few n h = omega arith

module _ (s : Store) (values : HasValues s) where
  named : (p : Pair) → IsSome (runs_in_library (programs_of s) p) → IsSome (checks_in_store s p.name)
  named p h =
      let known = some_is (runs_in_library (programs_of s) p) h in
      let ran = ran_of (programs_of s) p known.0 known.1 in
      let text = has_text (programs_of s) p.name p.arg known.0.value ample ran.used ran.calls ran.is in
      let there = published_program s p.name text.0 text.1 in
      is_some (checks_in_store s p.name) (from_zero there.0.checked) (ap (option_map (λ (e : Published). from_zero e.checked)) there.1)

  checked_stands : (p : Pair) → IsChecked (checks_in_store s) p → IsSome (runs_in_library (programs_of s) p)
  checked_stands p h =
      let c = checked_of s p h in
      let v = values p.name c.2.0 c.0 c.1 c.2.1 in
      let top : Pair = pair p.name (pos c.2.0) in
      let calls = (run_name (programs_of s) p.name (pos c.2.0) ample).1 in
      let there = entry_with (programs_of s) top v.0 v.1 calls (ap (λ (o : Outcome). (o, (run_name (programs_of s) p.name (pos c.2.0) ample).1)) v.2) in
      subst (λ (z : Pair). IsSome (runs_in_library (programs_of s) z)) (same_parts top p refl (sym c.2.2)) (is_some (runs_in_library (programs_of s) top) _ there)

  pub store_closed : IsClosed (checks_in_store s) (runs_in_library (programs_of s))
  store_closed = record {
    named = named;
    checked = checked_stands;
    called = λ from to h. (calls_have_values (programs_of s) from to h).0;
    no_cycle = (steps_at (programs_of s), λ from to h. (calls_have_values (programs_of s) from to h).1);
  }

  pub store_totals : TotalsFit (checks_in_store s) (runs_in_library (programs_of s))
  store_totals = (
    steps_at (programs_of s),
    steps_are_totals (programs_of s),
    λ p live.
        let known = some_is (runs_in_library (programs_of s) p) (live_stands (checks_in_store s) (runs_in_library (programs_of s)) p store_closed live) in
        let ran = ran_of (programs_of s) p known.0 known.1 in
        let le : ran.used ≤ ample = used_within (programs_of s) (suc ample) (programs_of s p.name) p.arg ample known.0.value ran.used ran.calls ran.is in
        subst (λ (n : ℕ). n < 2 ^ 64) (sym (steps_with (programs_of s) p known.0.value ran.used ran.calls ran.is)) (few ran.used le),
  )
