-- The finished runs of a carried proposal are those in the newer store.
use Rattle.std.proofs.Common.{ℕ, ◌≡◌, sym, ap, subst, ℤ, inl, inr, List, Contains}
use Rattle.loda_syntax.specs.Programs.{Text}
use Rattle.program_store.specs.Store.{Store}
use Rattle.seq_calls.specs.declared.outcomes.NodeRun.{NodeRun}
use Rattle.seq_calls.specs.Frames.{nodes_of}
use Rattle.seq_calls.specs.Demand.{ample}
use Rattle.demand_table.specs.Replaceable.{proposed_nodes, IsRunAt, AreRuns}
use Rattle.carry_over.specs.Carries.{MeetsTheSame}

pub runs_carry : (s s2 : Store) (q : ℕ) (p : Text) (checked : ℕ) (runs : List NodeRun) → MeetsTheSame s s2 q p → AreRuns s q p checked runs → AreRuns s2 q p checked runs
runs_carry s s2 q p checked runs meets are node = (forth, back)
  where
    nodes_same : (x : ℤ) → proposed_nodes s2 q p x ≡ proposed_nodes s q p x
    nodes_same x = ap (nodes_of q x) (meets.proposed_runs x ample)

    there : (x : ℤ) → IsRunAt s q checked x → IsRunAt s2 q checked x
    there x (inl c) = inl c
    there x (inr d) = inr (d.0, d.1, (meets.demands d.0 d.1 x).1 d.2)

    here : (x : ℤ) → IsRunAt s2 q checked x → IsRunAt s q checked x
    here x (inl c) = inl c
    here x (inr d) = inr (d.0, d.1, (meets.demands d.0 d.1 x).0 d.2)

    forth : Contains runs node → (x : ℤ) × IsRunAt s2 q checked x × Contains (proposed_nodes s2 q p x) node
    forth c = let h = (are node).0 c in (h.0, there h.0 h.1, subst (λ (l : List NodeRun). Contains l node) (sym (nodes_same h.0)) h.2)

    back : (x : ℤ) × IsRunAt s2 q checked x × Contains (proposed_nodes s2 q p x) node → Contains runs node
    back h = (are node).1 (h.0, here h.0 h.1, subst (λ (l : List NodeRun). Contains l node) (nodes_same h.0) h.2)
