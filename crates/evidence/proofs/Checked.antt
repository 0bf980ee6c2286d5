-- The checked runs of a sound store.
use Rattle.std.proofs.Common.{ℕ, ◌<◌, ◌≤◌, ◌≡◌, refl, ap, arith}
use Rattle.std.specs.declared.option.Option.{Option}
use Rattle.std.specs.declared.option.Option.TheVariants.{Some, None}
use Rattle.loda_semantics.specs.Exec.{Outcome, Calls}
use Rattle.program_store.specs.declared.published.Published.{Published}
use Rattle.program_store.specs.Store.{Store, published_at, checked_in}
use Rattle.seq_calls.specs.Demand.{ample}
use Rattle.judge.specs.Passed.{Terms}
use Rattle.judge.specs.Sound.{Sound}
use Rattle.judge.proofs.Demanded.{checked_runs}
use Rattle.demand_table.specs.Nodes.{HasCheckedValues}

-- what is checked has an entry
entry_of : (o : Option Published) (i : ℕ) → i < checked_in o → (e : Published) × (o ≡ Some e) × (i < e.checked)
entry_of None i lt = absurd (omega (arith, lt))
entry_of (Some e) i lt = (e, refl, lt)

-- each of them has a value within the limit
pub checked_values : (s : Store) (terms : Terms) (limit : ℕ) → limit ≤ ample → Sound s terms limit → HasCheckedValues s limit
checked_values s terms limit fits sound = λ q i lt.
    let k = entry_of (published_at s q) i lt in
    let r = checked_runs s terms limit sound fits q i k.0 k.1 k.2 in
    (r.value_of, r.used, ap (λ (z : Outcome × Calls). z.0) r.is)
