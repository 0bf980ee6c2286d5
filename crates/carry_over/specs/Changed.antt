-- Which of some changes touches what an answer rests on.
use Rattle.std.specs.Prelude.{ℕ, ◌≡◌, List, [], ◌∷◌, ◌++◌}
use Rattle.evidence.specs.declared.change.Change.{Change}
use Rattle.carry_over.specs.Stores.{NoneHas}

-- the names of the changes, in order
abbrev pub changed_names : List Change → List ℕ
changed_names [] = []
changed_names (c ∷ cs) = c.name ∷ changed_names cs

-- it is the first of the changes whose name has the property
abbrev pub IsFirstTouched : (ℕ → Type 0) → List Change → Change → Type 0
IsFirstTouched P cs c = (before after : List Change) × (cs ≡ before ++ c ∷ after) × P c.name × NoneHas P (changed_names before)
