use Rattle.std.proofs.Common.{ℕ, ◌<◌, ◌≤◌, ◌-◌, ◌≡◌}
use Rattle.std.specs.Prelude.{Some}
use Rattle.oeis_terms.specs.Table.{row_of}
use Rattle.program_store.specs.declared.published.Published.{Published}
use Rattle.program_store.specs.Store.{published_at}
use Rattle.judge.specs.Sound.{IsEntrySound}
use Rattle.judge.proofs.opening.check_store.Given as goal
use Rattle.text_parts.specs.declared.names.TheConstants.{GREATEST_NAME}

abbrev pub invariant-loop-name : goal.invariant-loop-name
invariant-loop-name g l =
    (l.last ≤ GREATEST_NAME)
    × ((r : ℕ) (e : Published) → 0 < r → r ≤ l.last → published_at (g.V.View.store l.view) r ≡ Some e → IsEntrySound (g.V.View.store l.view) (row_of l.terms) l.limit r e)

abbrev pub decreases-loop-name : goal.decreases-loop-name
decreases-loop-name g l = GREATEST_NAME - l.last
