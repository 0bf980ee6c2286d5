-- What a run by frames gives. Only clauses of private functions use what stands here.
use Rattle.std.specs.Prelude.{ℕ, ◌+◌, ◌≡◌, ℤ, Bool, false, IsTrue, List, [], ◌∷◌}
use Rattle.std.specs.declared.option.Option.{Option}
use Rattle.std.specs.declared.option.Option.TheVariants.{Some, None}
use Rattle.loda_semantics.specs.Exec.{Outcome, Calls}
use Rattle.loda_semantics.specs.declared.kinds.Pair.{Pair}
use Rattle.seq_calls.specs.declared.outcomes.Outcome.{Outcome as Told}
use Rattle.seq_calls.specs.declared.outcomes.NodeRun.{NodeRun}
use Rattle.seq_calls.specs.declared.unfinished.Caller.{Caller}
use Rattle.seq_calls.specs.Frames.{pair, told, steps_of, node_of, nodes_of}

-- a finished run, of what its frame holds: the value, its steps without those of its callees, and its direct calls
abbrev pub ended_run : Pair → ℤ → ℕ → List Pair → NodeRun
ended_run p v own calls = record { pair = p; value = v; own = own; calls = calls }

-- the run's own, which a program without a name has none of
abbrev pub named_run : Option ℕ → ℤ → ℤ → ℕ → List Pair → List NodeRun
named_run (Some q) x v own calls = ended_run (pair q x) v own calls ∷ []
named_run None x v own calls = []

-- whether the calls of a run with these callers are kept: those of the outermost run, or those of each run
abbrev pub keeps : Bool → Bool → List Caller → Bool
keeps outermost each [] = outermost
keeps outermost each (c ∷ cs) = each

-- Of a run at x, under a name or none, that comes to this: the outcome, where it has a name the finished runs, all of them or its
-- own alone, and the steps that are left of n.
pub record IsRun (ran : Outcome × Calls) (name : Option ℕ) (all : Bool) (x : ℤ) (n : ℕ) (told_of : Told) (nodes : List NodeRun) (left : ℕ) : Type 0 where
  pub outcome : told_of ≡ told ran.0
  pub finished : IsTrue all → (q : ℕ) → name ≡ Some q → nodes ≡ nodes_of q x ran
  pub own : all ≡ false → (q : ℕ) → name ≡ Some q → nodes ≡ node_of q x ran.0 ran.1
  pub steps : steps_of ran.0 + left ≡ n
