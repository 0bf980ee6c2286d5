-- The runs of a store's checked arguments, while they are put into slots. Only clauses of private functions use what stands here.
use Rattle.std.specs.Prelude.{ℕ, ◌<◌, ◌≤◌, ◌≡◌, ◌⊎◌, pos, List, [], ◌∷◌, ◌++◌, Contains, IsSome}
use Rattle.std.specs.declared.option.Option.TheVariants.{Some, None}
use Rattle.loda_semantics.specs.declared.kinds.Pair.{Pair}
use Rattle.text_parts.specs.Names.{IsName}
use Rattle.program_store.specs.Store.{Store, programs_of, checked_at}
use Rattle.seq_calls.specs.declared.outcomes.NodeRun.{NodeRun}
use Rattle.seq_calls.specs.Frames.{pair}
use Rattle.demand_table.specs.declared.entry.Entry.{Entry}
use Rattle.demand_table.specs.declared.gathering.Gathered.{Gathered}
use Rattle.demand_table.specs.Ascending.{AllAscend}
use Rattle.demand_table.specs.Counts.{IsCount}
use Rattle.demand_table.specs.Drawn.{RunCalls, IsReached}
use Rattle.demand_table.specs.Loaded.{Folders, slots_of, node_at, checks_of}
use Rattle.demand_table.specs.Reaching.{Index}
use Rattle.demand_table.specs.Settling.{IsUnsettled}
use Rattle.demand_table.specs.Table.{runs_in_library, checks_in_store}
use Rattle.demand_table.specs.Upward.{names_filed_under}
use Rattle.demand_table.specs.Work.{Slots, runs_in, IsCounted}

-- The folders have the checked arguments of the store, and no nodes yet.
pub record IsUndrawn (s : Store) (folders : Folders) : Type 0 where
  pub checks : (name : ℕ) → checks_of folders name ≡ checks_in_store s name
  pub none : (p : Pair) → node_at folders p ≡ None
  pub ascend : AllAscend folders

-- The runs in the slots are live ones of the store, with all that they call. Their callers are counted, a caller's name stands
-- under each name that it calls, and their pairs are listed.
pub record AreLiveRuns (s : Store) (w : Slots) (callers : Index) (Listed : Pair → Type 0) (stand : ℕ) : Type 0 where
  pub within : (p : Pair) (e : Entry) → (w p).entry ≡ Some e → runs_in_library (programs_of s) p ≡ Some e
  pub live : (p : Pair) → IsSome (w p).entry → IsReached (checks_in_store s) (runs_in_library (programs_of s)) p
  pub closed : (from to : Pair) → RunCalls (runs_in w) from to → IsSome (w to).entry
  pub covers : (from to : Pair) → RunCalls (runs_in w) from to → IsName to.name → Contains (names_filed_under callers to.name) from.name
  pub counted : IsCounted w
  pub many : IsCount (λ p. IsSome (w p).entry) stand
  pub listed : (p : Pair) → IsSome (w p).entry → Listed p
  pub settled : (p : Pair) → IsUnsettled w p → ⊥

-- what was gathered are live runs of the store
abbrev pub IsGathered : Store → Folders → Gathered → Type 0
IsGathered s folders g = AreLiveRuns s (slots_of folders g.work) g.callers (Contains g.pairs.items) g.stand

-- There is one frame, and all that its run calls stands already.
pub record HasItsCalls (w : Slots) (nodes : List NodeRun) : Type 0 where
  pub own : NodeRun
  pub only : nodes ≡ own ∷ []
  pub stand : (to : Pair) → Contains own.calls to → IsSome (w to).entry

-- all frames of a run are put in, or the last alone, where all that it calls stands already
abbrev pub IsFresh : Slots → List NodeRun → List NodeRun → Type 0
IsFresh w all fresh = (fresh ≡ all) ⊎ (HasItsCalls w fresh × ((front : List NodeRun) × (all ≡ front ++ fresh)))

-- the run of a pair was gathered
abbrev pub HasRunAt : Folders → Gathered → Pair → Type 0
HasRunAt folders g p = IsSome (slots_of folders g.work p).entry

-- all that was gathered first is there still
abbrev pub KeepsRuns : Folders → Gathered → Gathered → Type 0
KeepsRuns folders first next = (p : Pair) → HasRunAt folders first p → HasRunAt folders next p

-- the runs of a name at its first arguments were gathered
abbrev pub HasFirstRuns : Folders → Gathered → ℕ → ℕ → Type 0
HasFirstRuns folders g name count = (i : ℕ) → i < count → HasRunAt folders g (pair name (pos i))

-- the runs of all names up to this one at their checked arguments were gathered
abbrev pub HasRunsUpTo : Store → Folders → Gathered → ℕ → Type 0
HasRunsUpTo s folders g last = (name : ℕ) → 0 < name → name ≤ last → HasFirstRuns folders g name (checked_at s name)
