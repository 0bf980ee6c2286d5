-- Calls turned round: which names stand under the name that they call. Only clauses of private functions use what stands here.
use Rattle.std.specs.Prelude.{ℕ, ◌≡◌, ◌⊎◌, ◌↔◌, List, [], Contains, nat_eq}
use Rattle.std.specs.Global.{Vec}
use Rattle.std.specs.Option.{option_map_or}
use Rattle.indexmap.specs.IndexMap.{IndexMap, get}

-- the names that stand under a name
abbrev pub names_under : {S : Type 0} → IndexMap ℕ (Vec ℕ) S → ℕ → List ℕ
names_under callers name = option_map_or (λ v. v.items) (get nat_eq callers name) []

-- under each name the new lists have just what the old ones have, and the caller where it calls that name
abbrev pub AddsCaller : (ℕ → List ℕ) → (ℕ → List ℕ) → ℕ → List ℕ → Type 0
AddsCaller old new caller calls = (to from : ℕ) → Contains (new to) from ↔ (Contains (old to) from ⊎ ((from ≡ caller) × Contains calls to))
