-- The table of a store, and what a replacement has to meet.
use Rattle.std.specs.Prelude.{ℕ, ◌-◌, ◌<◌, ◌≤◌, ◌≡◌, ◌⊎◌, ℤ, pos, List, Contains, IsSome}
use Rattle.std.specs.declared.option.Option.{Option}
use Rattle.std.specs.declared.option.Option.TheVariants.{Some, None}
use Rattle.std.specs.Option.{option_map}
use Rattle.loda_semantics.specs.declared.kinds.Pair.{Pair}
use Rattle.loda_semantics.specs.Exec.{Outcome, value, fault, out, Library, run_name}
use Rattle.loda_semantics.specs.Exec.{Calls as CallRecords}
use Rattle.loda_syntax.specs.Programs.{Text}
use Rattle.program_store.specs.declared.published.Published.{Published}
use Rattle.program_store.specs.Store.{Store, published_at, programs_of, put_in}
use Rattle.program_store.specs.Graph.{NoCycle}
use Rattle.seq_calls.specs.declared.outcomes.NodeRun.{NodeRun}
use Rattle.seq_calls.specs.Frames.{steps_of, steps_below, direct, nodes_of}
use Rattle.seq_calls.specs.Demand.{ample, InDem}
use Rattle.demand_table.specs.declared.range.Range.{Range}
use Rattle.demand_table.specs.declared.entry.Entry.{Entry}
use Rattle.demand_table.specs.Drawn.{CheckedRanges, Runs, Drawing, IsDrawn}

-- ---- the table of a store

-- what a run that ended with a value came to without its callees
abbrev pub entry_from : Outcome → CallRecords → Option Entry
entry_from (value v used) c = Some (record { value = v; own = used - steps_below c; calls = direct c })
entry_from (fault k used) c = None
entry_from (out used) c = None

-- the runs of all names at all arguments that end with a value
abbrev pub runs_in_library : Library → Runs
runs_in_library lib p = entry_from (run_name lib p.name p.arg ample).0 (run_name lib p.name p.arg ample).1

-- the steps of the run of a pair, with ample steps
abbrev pub steps_at : Library → Pair → ℕ
steps_at lib p = steps_of (run_name lib p.name p.arg ample).0

-- the first so many arguments
abbrev pub from_zero : ℕ → Range
from_zero checked = record { first = pos 0; checked = checked }

-- the checked arguments of each published name
abbrev pub checks_in_store : Store → CheckedRanges
checks_in_store s name = option_map (λ (e : Published). from_zero e.checked) (published_at s name)

-- the table of a store without cycles whose checked runs have values
abbrev pub IsDemandTable : Store → Drawing → Type 0
IsDemandTable s D = IsDrawn (checks_in_store s) (runs_in_library (programs_of s)) D

-- a pair is live where its name is published and its argument is checked or demanded
abbrev pub IsLiveIn : Store → Pair → Type 0
IsLiveIn s p = (e : Published) × (published_at s p.name ≡ Some e) × (((i : ℕ) × (i < e.checked) × (p.arg ≡ pos i)) ⊎ InDem s p.name p.arg)

-- ---- a replacement

-- the frames are those of these runs and nothing else
pub record AreFramesOf (lib : Library) (Wanted : Pair → Type 0) (runs : List NodeRun) : Type 0 where
  pub all : (p : Pair) → Wanted p → (r : NodeRun) → Contains (nodes_of p.name p.arg (run_name lib p.name p.arg ample)) r → Contains runs r
  pub only : (r : NodeRun) → Contains runs r → (p : Pair) × Wanted p × Contains (nodes_of p.name p.arg (run_name lib p.name p.arg ample)) r

-- the arguments at which the new program is run: the new checked ones and those that were demanded
abbrev pub IsWanted : Store → ℕ → ℕ → Pair → Type 0
IsWanted s q checked p = (p.name ≡ q) × (((i : ℕ) × (i < checked) × (p.arg ≡ pos i)) ⊎ InDem s q p.arg)

-- the condition of a replacement
pub record MayReplace (s : Store) (q : ℕ) (text : Text) (checked : ℕ) : Type 0 where
  pub acyclic : NoCycle (programs_of (put_in s q text checked))
  pub values : (i : ℕ) → i < checked → IsSome (runs_in_library (programs_of (put_in s q text checked)) (record { name = q; arg = pos i }))
  pub demanded : (x : ℤ) → InDem s q x → (e f : Entry) × (runs_in_library (programs_of s) (record { name = q; arg = x }) ≡ Some e)
      × (runs_in_library (programs_of (put_in s q text checked)) (record { name = q; arg = x }) ≡ Some f) × (e.value ≡ f.value)
  pub no_dearer : (x : ℤ) → InDem s q x → steps_at (programs_of (put_in s q text checked)) (record { name = q; arg = x }) ≤ steps_at (programs_of s) (record { name = q; arg = x })
