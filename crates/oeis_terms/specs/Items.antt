-- Items that stand one after the other, read from the left, each at its place.
use Rattle.std.specs.Prelude.{ℕ, List, [], ◌∷◌, Result, Ok}
use Rattle.text_parts.specs.Results.{◌>>=◌}

-- an item by its place and bytes, and the place after it
unfoldable pub items_from : {A E : Type 0} → (ℕ → List ℕ → Result A E) → (ℕ → List ℕ → ℕ) → ℕ → List (List ℕ) → Result (List A) E
items_from item after place [] = Ok []
items_from item after place (p ∷ ps) = do
  x ← item place p
  xs ← items_from item after (after place p) ps
  Ok (x ∷ xs)
