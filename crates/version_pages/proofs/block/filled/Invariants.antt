use Rattle.std.proofs.Common.{◌≡◌, ℕ, ◌≤◌, vec_len}
use Rattle.version_pages.specs.Table.{place, held}
use Rattle.version_pages.proofs.block.filled.Given as goal

abbrev pub invariant-fill : goal.invariant-fill
invariant-fill g l =
    (vec_len l.places ≡ l._filled) × ((n : ℕ) → vec_len l.fn.places ≤ n → l.least ≤ n → vec_len l.places ≤ n) × ((k : ℕ) → place (held l.places.items) k ≡ place (held l.fn.places.items) k)
