-- An accepted program may replace, and its runs are the frames.
use Rattle.std.proofs.Common.{ℕ, ◌≡◌, refl, sym, ap, subst, ◌∙◌, ℤ, pos, List, Contains}
use Rattle.std.specs.Prelude.{IsSome}
use Rattle.std.specs.declared.option.Option.TheVariants.{Some}
use Rattle.loda_syntax.specs.Programs.{Text}
use Rattle.loda_semantics.specs.Exec.{Outcome, value, Library, run_name}
use Rattle.program_store.specs.Store.{Store, programs_of, put_in, after}
use Rattle.program_store.specs.Graph.{NoCycle}
use Rattle.seq_calls.specs.declared.outcomes.NodeRun.{NodeRun}
use Rattle.seq_calls.specs.Frames.{pair, nodes_of}
use Rattle.seq_calls.specs.Demand.{ample}
use Rattle.seq_calls.specs.Values.{outcome, KeepsValue}
use Rattle.seq_calls.proofs.Values.{gives_value}
use Rattle.program_store.proofs.Puts.{next_programs}
use Rattle.demand_table.specs.Replaceable.{AreRuns, IsReplaceable}
use Rattle.demand_table.specs.declared.entry.Entry.{Entry}
use Rattle.demand_table.specs.Table.{runs_in_library, AreFramesOf, IsWanted, MayReplace}
use Rattle.demand_table.proofs.Counted.{is_some}
use Rattle.demand_table.proofs.Ran.{entry_with}

-- a value with ample steps is an entry
entry_of_value : (lib : Library) (q : ℕ) (x v : ℤ) (used : ℕ) → outcome lib q x ample ≡ value v used → (e : Entry) × (runs_in_library lib (pair q x) ≡ Some e) × (e.value ≡ v)
entry_of_value lib q x v used h =
    let calls = (run_name lib q x ample).1 in
    (_, entry_with lib (pair q x) v used calls (ap (λ (z : Outcome). (z, (run_name lib q x ample).1)) h), refl)

module _ (s : Store) (q : ℕ) (p : Text) (checked : ℕ) where
  same : programs_of (put_in s q p checked) ≡ after s q p
  same = next_programs s q p checked

  demanded : (lib : Library) (x : ℤ) → KeepsValue (programs_of s) lib ample q x
      → (e f : Entry) × (runs_in_library (programs_of s) (pair q x) ≡ Some e) × (runs_in_library lib (pair q x) ≡ Some f) × (e.value ≡ f.value)
  demanded lib x k =
      let was = gives_value (outcome (programs_of s) q x ample) k.value k.was in
      let now = gives_value (outcome lib q x ample) k.value k.now in
      let e = entry_of_value (programs_of s) q x k.value was.0 was.1 in
      let f = entry_of_value lib q x k.value now.0 now.1 in
      (e.0, f.0, e.1, f.1, e.2 ∙ sym f.2)

  pub may_replace : IsReplaceable s q p checked → MayReplace s q p checked
  unfolding same
  may_replace h = record {
    acyclic = subst NoCycle (sym same) h.acyclic;
    values = λ i lt.
        let v = h.values i lt in
        let e = entry_of_value (after s q p) q (pos i) v.0 v.1 v.2 in
        subst (λ (lib : Library). IsSome (runs_in_library lib (pair q (pos i)))) (sym same) (is_some (runs_in_library (after s q p) (pair q (pos i))) e.0 e.1);
    demanded = λ x d. demanded (programs_of (put_in s q p checked)) x (subst (λ (lib : Library). KeepsValue (programs_of s) lib ample q x) (sym same) (h.keeps x d));
    no_dearer = λ x d. (subst (λ (lib : Library). KeepsValue (programs_of s) lib ample q x) (sym same) (h.keeps x d)).no_dearer;
  }

  pub frames_of : (runs : List NodeRun) → AreRuns s q p checked runs → AreFramesOf (programs_of (put_in s q p checked)) (IsWanted s q checked) runs
  unfolding same
  frames_of runs are =
      subst (λ (lib : Library). AreFramesOf lib (IsWanted s q checked) runs) (sym same) (record {
        all = λ z wanted r at. (are r).1 (z.arg, wanted.1, subst (λ (n : ℕ). Contains (nodes_of n z.arg (run_name (after s q p) n z.arg ample)) r) wanted.0 at);
        only = λ r at. let h = (are r).0 at in (pair q h.0, (refl, h.1), h.2);
      })
