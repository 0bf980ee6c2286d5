-- A map of which each key is a name.
use Rattle.std.specs.Prelude.{◌≡◌, ℕ, ◌<◌, None, IsSome}
use Rattle.std.specs.Ordering.{nat_cmp}
use Rattle.std.specs.FinMap.{FinMap, get}
use Rattle.text_parts.specs.Names.{IsName}

module _ {T : Type 0} where
  -- nothing stands at a number that is no name
  abbrev pub HasNamesOnly : FinMap nat_cmp T → Type 0
  HasNamesOnly m = (key : ℕ) → IsSome (get m key) → IsName key

  -- nothing stands at a name above this one
  abbrev pub HasNoneAbove : FinMap nat_cmp T → ℕ → Type 0
  HasNoneAbove m after = (name : ℕ) → after < name → get m name ≡ None

  -- of the names above `after` at which something stands, `next` is the least
  pub record IsNextName (m : FinMap nat_cmp T) (after next : ℕ) : Type 0 where
    pub name : IsName next
    pub above : after < next
    pub holds : IsSome (get m next)
    pub least : (name : ℕ) → after < name → name < next → get m name ≡ None
