use Rattle.std.proofs.Common.{◌≡◌, ℕ, ◌<◌, ◌≤◌, None}
use Rattle.version_pages.specs.Table.{place, held}
use Rattle.version_pages.proofs.block.first_held.Given as goal

abbrev pub invariant-loop-at : goal.invariant-loop-at
invariant-loop-at g l = (k : ℕ) → l.fn.from ≤ k → k < l.at → place (held l.places) k ≡ None
