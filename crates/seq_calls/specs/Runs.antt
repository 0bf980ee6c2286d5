-- What is known of runs that call. Only clauses of private functions use what stands here.
use Rattle.std.specs.Prelude.{ℕ, ◌-◌, ◌<◌, ◌≤◌, ◌≡◌, ℤ, pos}
use Rattle.std.specs.declared.option.Option.TheVariants.{Some}
use Rattle.loda_semantics.specs.Exec.{value, Calls, Library, run_name}
use Rattle.program_store.specs.declared.published.Published.{Published}
use Rattle.program_store.specs.Store.{Store, published_at, programs_of}
use Rattle.seq_calls.specs.declared.outcomes.NodeRun.{NodeRun}
use Rattle.seq_calls.specs.Frames.{steps_below, direct}
use Rattle.seq_calls.specs.Demand.{ample}

-- a run that has a value within n steps, and its calls
pub record HasRun (lib : Library) (n q : ℕ) (x : ℤ) : Type 0 where
  pub value_of : ℤ
  pub used : ℕ
  pub calls : Calls
  pub is : run_name lib q x n ≡ (value value_of used, calls)

-- the finished run is that of its pair, within n steps
pub record IsRunOf (lib : Library) (n : ℕ) (node : NodeRun) : Type 0 where
  pub used : ℕ
  pub calls : Calls
  pub ran : run_name lib node.pair.name node.pair.arg n ≡ (value node.value used, calls)
  pub own : node.own ≡ used - steps_below calls
  pub direct_calls : node.calls ≡ direct calls

-- each checked run has a value
abbrev pub HasValues : Store → Type 0
HasValues s = (q i : ℕ) (e : Published) → published_at s q ≡ Some e → i < e.checked → (v : ℤ) × (used : ℕ) × ((run_name (programs_of s) q (pos i) ample).0 ≡ value v used)

-- the same value in both libraries, by the same direct calls and in as many steps besides those of the callees
pub record KeepsRun (lib1 lib2 : Library) (n q : ℕ) (x : ℤ) : Type 0 where
  pub value_of : ℤ
  pub used : ℕ
  pub calls : Calls
  pub less : ℕ
  pub now : Calls
  pub was : run_name lib1 q x n ≡ (value value_of used, calls)
  pub is : run_name lib2 q x n ≡ (value value_of less, now)
  pub no_dearer : less ≤ used
  pub same_calls : direct now ≡ direct calls
  pub same_own : less - steps_below now ≡ used - steps_below calls
