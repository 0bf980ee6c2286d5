use Rattle.std.proofs.Common.{ℕ, ◌≡◌, ◌≤◌, ◌+◌, ◌*◌, length, ◌⊎◌}
use Rattle.std.proofs.Common.{ℤ}
use Rattle.program_store.specs.Store.{after}
use Rattle.evidence.specs.Runs.{AreRunsAt, IsFirst, IsOf}
use Rattle.evidence.specs.Trials.{KeepsAt, IsLeastOrNone}
use Rattle.evidence.proofs.comparing.compare_demanded.Given as goal

abbrev pub invariant-loop-at : goal.invariant-loop-at
invariant-loop-at g l =
    (l.name ≡ l.proposal.name)
    × KeepsAt l.tables l.limit l.proposal.name l.proposal.program (IsOf l.demanded l.at-index)
    × IsLeastOrNone l.tables l.limit l.proposal.name l.proposal.program (IsOf l.demanded l.at-index) l.dearer
    × ((k : ℕ) → AreRunsAt (after l.tables l.proposal.name l.proposal.program) l.proposal.name l.limit (IsFirst k) l.fn.runs.items
    → AreRunsAt (after l.tables l.proposal.name l.proposal.program) l.proposal.name l.limit (λ x. IsFirst k x ⊎ IsOf l.demanded l.at-index x) l.runs.items)
    × (l.steps ≤ l.fn.steps + l.at-index * l.limit)
