-- What a run with calls leaves behind: its outcome, its steps, and the finished runs.
use Rattle.std.specs.Prelude.{ℕ, ◌+◌, ◌-◌, ℤ, List, [], ◌∷◌, ◌++◌}
use Rattle.loda_semantics.specs.declared.kinds.Pair.{Pair}
use Rattle.loda_semantics.specs.Exec.{Outcome, value, fault, out, Calls, none, call}
use Rattle.seq_calls.specs.declared.outcomes.Outcome.{Outcome as Told}
use Rattle.seq_calls.specs.declared.outcomes.Outcome.TheVariants as told_as
use Rattle.seq_calls.specs.declared.outcomes.NodeRun.{NodeRun}

-- an outcome as it is told: out of steps, it does not say how many were used
abbrev pub told : Outcome → Told
told (value v used) = told_as.Value v used
told (fault kind used) = told_as.Fault kind used
told (out used) = told_as.OutOfSteps

-- the steps that a run used
abbrev pub steps_of : Outcome → ℕ
steps_of (value v used) = used
steps_of (fault kind used) = used
steps_of (out used) = used

-- a name and an argument
abbrev pub pair : ℕ → ℤ → Pair
pair q x = record { name = q; arg = x }

-- the direct calls, in order
abbrev pub direct : Calls → List Pair
direct none = []
direct (call q x o inner rest) = pair q x ∷ direct rest

-- the steps that they used
abbrev pub steps_below : Calls → ℕ
steps_below none = 0
steps_below (call q x o inner rest) = steps_of o + steps_below rest

-- a run of a name that ended with a value: the value, its steps without those of its callees, and its direct calls
abbrev pub node_of : ℕ → ℤ → Outcome → Calls → List NodeRun
node_of q x (value v used) c = record { pair = pair q x; value = v; own = used - steps_below c; calls = direct c } ∷ []
node_of q x (fault kind used) c = []
node_of q x (out used) c = []

-- the runs of the callees, in the order in which they finished, those of undone iterations among them
abbrev pub nodes_in : Calls → List NodeRun
nodes_in none = []
nodes_in (call q x o inner rest) = (nodes_in inner ++ node_of q x o inner) ++ nodes_in rest

-- those of a run of a name, which is the last
abbrev pub nodes_of : ℕ → ℤ → Outcome × Calls → List NodeRun
nodes_of q x ran = nodes_in ran.1 ++ node_of q x ran.0 ran.1

-- the run's own alone
abbrev pub own_nodes : ℕ → ℤ → Outcome × Calls → List NodeRun
own_nodes q x ran = node_of q x ran.0 ran.1
