-- Each direct call of a run with a value has a value in fewer steps, and the steps of the run are its own and theirs.
use Rattle.std.proofs.Common.{◌+◌, ◌<◌, ◌≡◌, refl, sym, ap, subst, ◌∙◌, arith, List, Contains, sum_by}
use Rattle.std.specs.Prelude.{IsSome}
use Rattle.std.proofs.lemmas.List.Sums.{sum_by-cons}
use Rattle.loda_semantics.specs.declared.kinds.Pair.{Pair}
use Rattle.loda_semantics.specs.Exec.{Calls, none, call, Library}
use Rattle.seq_calls.specs.Frames.{steps_of, steps_below, pair, direct}
use Rattle.seq_calls.specs.Demand.{ample}
use Rattle.seq_calls.proofs.Records.{AreAnswered, answered_name}
use Rattle.seq_calls.proofs.Below.{calls_have_runs}
use Rattle.demand_table.specs.declared.entry.Entry.{Entry}
use Rattle.demand_table.specs.Drawn.{RunCalls as CallsIn}
use Rattle.demand_table.specs.Table.{runs_in_library, steps_at}
use Rattle.demand_table.proofs.Counted.{is_some}
use Rattle.demand_table.proofs.Ran.{ran_of, steps_with, entry_with}
use Rattle.std.specs.declared.option.Option.TheVariants.{Some}

pub calls_have_values : (lib : Library) (from to : Pair) → CallsIn (runs_in_library lib) from to → IsSome (runs_in_library lib to) × (steps_at lib to < steps_at lib from)
calls_have_values lib from to h =
    let ran = ran_of lib from h.0 h.1 in
    let there = (calls_have_runs lib from.name from.arg h.0.value ample ran.used ran.calls ran.is).1 to (subst (λ (l : List Pair). Contains l to) ran.called h.2) in
    let a = steps_with lib from h.0.value ran.used ran.calls ran.is in
    let b = steps_with lib to there.0.value_of there.0.used there.0.calls there.0.is in
    let lt = there.1 in
    (is_some (runs_in_library lib to) _ (entry_with lib to there.0.value_of there.0.used there.0.calls there.0.is), omega (arith, a, b, lt))

below_sum : (lib : Library) (c : Calls) → AreAnswered lib ample c → steps_below c ≡ sum_by (steps_at lib) (direct c)
below_sum lib none h = refl
below_sum lib (call q x o inner rest) h =
    let later = below_sum lib rest h.2 in
    let both = sum_by-cons (steps_at lib) (pair q x) (direct rest) in
    let here : steps_of o ≡ h.0.1 = ap steps_of h.0.2 in
    let same : steps_at lib (pair q x) ≡ h.0.1 = steps_with lib (pair q x) h.0.0 h.0.1 inner h.0.3 in
    omega (arith, later, both, here, same)

pub steps_are_totals : (lib : Library) (p : Pair) (e : Entry) → runs_in_library lib p ≡ Some e → steps_at lib p ≡ e.own + sum_by (steps_at lib) e.calls
steps_are_totals lib p e h =
    let ran = ran_of lib p e h in
    let sum : steps_below ran.calls ≡ sum_by (steps_at lib) e.calls = below_sum lib ran.calls (answered_name lib ample p.name p.arg e.value ran.used ran.calls ran.is) ∙ ap (sum_by (steps_at lib)) (sym ran.called) in
    let le = (calls_have_runs lib p.name p.arg e.value ample ran.used ran.calls ran.is).0 in
    let all = steps_with lib p e.value ran.used ran.calls ran.is in
    let own = ran.own in
    omega (arith, sum, le, all, own)
