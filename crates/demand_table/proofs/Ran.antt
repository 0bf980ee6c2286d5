-- What an entry says of a run, and that frames are the runs of their pairs.
use Rattle.std.proofs.Common.{ℕ, ◌-◌, ◌≡◌, sym, ap, ◌∙◌, ℤ, Contains}
use Rattle.std.specs.Prelude.{IsSome}
use Rattle.std.specs.declared.option.Option.TheVariants.{Some, None}
use Rattle.loda_semantics.specs.declared.kinds.Pair.{Pair}
use Rattle.loda_semantics.specs.Exec.{Outcome, value, fault, out, Calls, Library, run_name}
use Rattle.seq_calls.specs.declared.outcomes.NodeRun.{NodeRun}
use Rattle.seq_calls.specs.Frames.{steps_of, steps_below, direct, nodes_of}
use Rattle.seq_calls.specs.Demand.{ample}
use Rattle.seq_calls.proofs.Members.{members_are_runs}
use Rattle.demand_table.specs.declared.entry.Entry.{Entry}
use Rattle.demand_table.specs.Mended.{run_of}
use Rattle.demand_table.specs.Table.{entry_from, runs_in_library, steps_at}
use Rattle.demand_table.proofs.Counted.{some_is}

-- the run of the pair that the entry tells of
pub record IsRan (lib : Library) (p : Pair) (e : Entry) : Type 0 where
  pub used : ℕ
  pub calls : Calls
  pub is : run_name lib p.name p.arg ample ≡ (value e.value used, calls)
  pub own : e.own ≡ used - steps_below calls
  pub called : e.calls ≡ direct calls

parts_of : (o : Outcome) (c : Calls) (e : Entry) → entry_from o c ≡ Some e → (used : ℕ) × (o ≡ value e.value used) × (e.own ≡ used - steps_below c) × (e.calls ≡ direct c)
parts_of (value v used) c e h =
    let same : record { value = v; own = used - steps_below c; calls = direct c } ≡ e = cc in
    (used, ap (λ (z : Entry). value z.value used) same, sym (ap (λ (z : Entry). z.own) same), sym (ap (λ (z : Entry). z.calls) same))
parts_of (fault k used) c e h = absurd (let z : None ≡ Some e = h in cc)
parts_of (out used) c e h = absurd (let z : None ≡ Some e = h in cc)

pub ran_of : (lib : Library) (p : Pair) (e : Entry) → runs_in_library lib p ≡ Some e → IsRan lib p e
ran_of lib p e h =
    let ran = run_name lib p.name p.arg ample in
    let parts = parts_of ran.0 ran.1 e h in
    record { used = parts.0; calls = ran.1; is = ap (λ (z : Outcome). (z, ran.1)) parts.1; own = parts.2; called = parts.3 }

pub entry_with : (lib : Library) (p : Pair) (v : ℤ) (used : ℕ) (c : Calls) → run_name lib p.name p.arg ample ≡ (value v used, c)
    → runs_in_library lib p ≡ Some (record { value = v; own = used - steps_below c; calls = direct c })
entry_with lib p v used c is = ap (λ (z : Outcome × Calls). entry_from z.0 z.1) is

pub steps_with : (lib : Library) (p : Pair) (v : ℤ) (used : ℕ) (c : Calls) → run_name lib p.name p.arg ample ≡ (value v used, c) → steps_at lib p ≡ used
steps_with lib p v used c is = ap (λ (z : Outcome × Calls). steps_of z.0) is

pub frames_are_runs : (lib : Library) (p : Pair) (r : NodeRun) → IsSome (runs_in_library lib p) → Contains (nodes_of p.name p.arg (run_name lib p.name p.arg ample)) r → runs_in_library lib r.pair ≡ Some (run_of r)
frames_are_runs lib p r there at =
    let known = some_is (runs_in_library lib p) there in
    let ran = ran_of lib p known.0 known.1 in
    let member = (members_are_runs lib p.name p.arg known.0.value ample ran.used ran.calls ran.is r at).0 in
    entry_with lib r.pair r.value member.used member.calls member.ran
    ∙ λ i. Some (record { value = r.value; own = sym member.own i; calls = sym member.direct_calls i })
