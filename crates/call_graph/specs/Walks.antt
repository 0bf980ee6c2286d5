-- What a walk down the calls has found. Only clauses of private functions use what stands here.
use Rattle.std.specs.Prelude.{ℕ, ◌≡◌, ◌⊎◌, ◌<◌, ◌↔◌, List, [], ◌++◌, Contains, length, get_or}
use Rattle.loda_semantics.specs.Exec.{Library}
use Rattle.program_store.specs.Graph.{OnCycle}
use Rattle.call_graph.specs.Closure.{CallsName, HasItsCalls}
use Rattle.call_graph.specs.declared.groups.Frame.{Frame}
use Rattle.call_graph.specs.declared.walk.Walk.{Walk}

-- a name on the path: its place on the stack, and where in its text the calls that are left begin
abbrev pub frame : ℕ → ℕ → Frame
frame at from = record { place = at; next = from }

-- the group has several names, or its one name calls itself
abbrev pub IsLoop : Library → List ℕ → Type 0
IsLoop lib group = (1 < length group) ⊎ CallsName lib (get_or group 0 0) (get_or group 0 0)

-- the names of the group are put in, where it is a loop
abbrev pub AddsLoop : Library → List ℕ → List ℕ → List ℕ → Type 0
AddsLoop lib group old new = (IsLoop lib group × (new ≡ old ++ group)) ⊎ ((IsLoop lib group → ⊥) × (new ≡ old))

-- the stack is empty, what the names done reach is done, and of them those on a cycle are known
pub record IsSettled (lib : Library) (walk : Walk) : Type 0 where
  pub closed : HasItsCalls lib walk.done.keys
  pub looped : (q : ℕ) → Contains walk.looped.items q ↔ (Contains walk.done.keys q × OnCycle lib q)
  pub stack : walk.stack.keys ≡ []
  pub starts : walk.starts.items ≡ []
  pub path : walk.path.items ≡ []
