-- What a table asks of a program that it puts in: the finished runs of the program, and what it keeps.
use Rattle.std.specs.Prelude.{ℕ, ◌<◌, ◌≡◌, ◌⊎◌, ◌↔◌, ℤ, pos, List, Contains}
use Rattle.loda_syntax.specs.Programs.{Text}
use Rattle.loda_semantics.specs.Exec.{value, run_name}
use Rattle.program_store.specs.Store.{Store, programs_of, after}
use Rattle.program_store.specs.Graph.{NoCycle}
use Rattle.seq_calls.specs.declared.outcomes.NodeRun.{NodeRun}
use Rattle.seq_calls.specs.Frames.{nodes_of}
use Rattle.seq_calls.specs.Demand.{ample, InDem}
use Rattle.seq_calls.specs.Values.{outcome, KeepsValue}

-- the finished runs of a run of the proposed program, in the store with it put in
abbrev pub proposed_nodes : Store → ℕ → Text → ℤ → List NodeRun
proposed_nodes s q p x = nodes_of q x (run_name (after s q p) q x ample)

-- the argument is one of the first, or is demanded
abbrev pub IsRunAt : Store → ℕ → ℕ → ℤ → Type 0
IsRunAt s q checked x = ((i : ℕ) × (i < checked) × (x ≡ pos i)) ⊎ InDem s q x

-- the finished runs of the proposed program at all its checked and all demanded arguments, and nothing else
abbrev pub AreRuns : Store → ℕ → Text → ℕ → List NodeRun → Type 0
AreRuns s q p checked runs =
    (node : NodeRun) → Contains runs node ↔ ((x : ℤ) × IsRunAt s q checked x × Contains (proposed_nodes s q p x) node)

-- no cycle, values at the checked arguments, and at each demanded one the same value in no more steps
pub record IsReplaceable (s : Store) (q : ℕ) (p : Text) (checked : ℕ) : Type 0 where
  pub acyclic : NoCycle (after s q p)
  pub values : (i : ℕ) → i < checked → (v : ℤ) × (used : ℕ) × (outcome (after s q p) q (pos i) ample ≡ value v used)
  pub keeps : (x : ℤ) → InDem s q x → KeepsValue (programs_of s) (after s q p) ample q x
