use Rattle.std.proofs.Common.{◌≡◌, ℕ, ◌≤◌, length, vec_len, take}
use Rattle.version_pages.specs.Table.{place, held}
use Rattle.version_pages.proofs.block.copied.Given as goal

abbrev pub invariant-loop-place : goal.invariant-loop-place
invariant-loop-place g l = (vec_len l.copy ≡ l.place-index) × (held l.copy.items ≡ held (take l.place-index l.places))

abbrev pub invariant-fill : goal.invariant-fill
invariant-fill g l =
    (vec_len l.copy ≡ l._filled) × ((n : ℕ) → length l.places ≤ n → l.least ≤ n → vec_len l.copy ≤ n) × ((k : ℕ) → place (held l.copy.items) k ≡ place (held l.places) k)
