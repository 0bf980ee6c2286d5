-- What a table tells of a store.
use Rattle.std.specs.Prelude.{ℕ, ◌<◌, ◌≡◌, ◌↔◌, ℤ, pos, ◌<ℤ◌, List, Contains, slice_get}
use Rattle.std.specs.declared.option.Option.TheVariants.{Some}
use Rattle.loda_semantics.specs.declared.kinds.Pair.{Pair}
use Rattle.loda_semantics.specs.Exec.{value}
use Rattle.program_store.specs.Store.{Store, IsPublished, programs_of, checked_at}
use Rattle.seq_calls.specs.Demand.{ample, InDem, IsReliedOn}
use Rattle.seq_calls.specs.Values.{outcome}
use Rattle.demand_table.specs.declared.node.Node.{Node}
use Rattle.demand_table.specs.Drawn.{RunCalls}
use Rattle.demand_table.specs.Table.{runs_in_library}

-- the pair is in the table
abbrev pub IsLive : Store → ℕ → ℤ → Type 0
IsLive s q x = IsPublished s q × IsReliedOn s q x

-- the node of a live pair has the value and all steps of its run
pub record IsNodeAt (s : Store) (q : ℕ) (x : ℤ) (n : Node) : Type 0 where
  pub live : IsLive s q x
  pub arg : n.arg ≡ x
  pub ran : outcome (programs_of s) q x ample ≡ value n.value n.total

-- the live run of the one pair calls the other
abbrev pub CallsPair : Store → Pair → Pair → Type 0
CallsPair s to from = IsLive s from.name from.arg × RunCalls (runs_in_library (programs_of s)) from to

-- each integer is less than those behind it
abbrev pub IsAscending : List ℤ → Type 0
IsAscending xs = (i j : ℕ) (a b : ℤ) → i < j → slice_get xs i ≡ Some a → slice_get xs j ≡ Some b → a <ℤ b

-- the demanded arguments of a name, in ascending order
pub record ListsDem (s : Store) (q : ℕ) (xs : List ℤ) : Type 0 where
  pub each : (x : ℤ) → Contains xs x ↔ InDem s q x
  pub ascending : IsAscending xs

-- every checked run has a value within the limit
abbrev pub HasCheckedValues : Store → ℕ → Type 0
HasCheckedValues s limit = (q i : ℕ) → i < checked_at s q → (v : ℤ) × (used : ℕ) × (outcome (programs_of s) q (pos i) limit ≡ value v used)
