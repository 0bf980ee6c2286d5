-- Walks down the calls: names that are done, a stack of names that are not, and the groups in which these stand. Only clauses of private functions use what stands here.
use Rattle.std.specs.Prelude.{⊤, ℕ, ◌≡◌, ◌⊎◌, ◌<◌, ◌≤◌, List, [], ◌∷◌, Contains, length, get_or, drop}
use Rattle.std.specs.declared.option.Option.TheVariants.{Some}
use Rattle.loda_syntax.specs.Programs.{Text}
use Rattle.loda_semantics.specs.Exec.{Library}
use Rattle.program_store.specs.Graph.{called_by, Reaches}
use Rattle.call_graph.specs.Closure.{CallsName, HasItsCalls}

-- each number on the list is greater than those after it
abbrev pub Descends : List ℕ → Type 0
Descends [] = ⊤
Descends (b ∷ bs) = ((c : ℕ) → Contains bs c → c < b) × Descends bs

-- the program of the name calls the other name at the place in its text or after it
abbrev pub IsLeft : Library → ℕ → ℕ → ℕ → Type 0
IsLeft lib q next n = (p : Text) × (lib q ≡ Some p) × Contains (called_by (drop next p)) n

-- each group that starts at place j or before it starts at place k or before it, so k is in j's group or in a later one
abbrev pub IsUpTo : List ℕ → ℕ → ℕ → Type 0
IsUpTo starts j k = (b : ℕ) → Contains starts b → b ≤ j → b ≤ k

-- the name is done, or on the stack, in the group of place j or in a later one
abbrev pub IsMet : List ℕ → List ℕ → List ℕ → ℕ → ℕ → Type 0
IsMet done stack starts j n = Contains done n ⊎ ((k : ℕ) × (k < length stack) × (get_or stack k 0 ≡ n) × IsUpTo starts j k)

-- the new starts are the old ones up to place k
pub record AreCutStarts (old : List ℕ) (k : ℕ) (new : List ℕ) : Type 0 where
  pub descends : Descends new
  pub kept : (b : ℕ) → Contains old b → b ≤ k → Contains new b
  pub cut : (b : ℕ) → Contains new b → Contains old b × (b ≤ k)

-- the name is done, or it is on the stack and the starts are cut at its place
abbrev pub IsKnown : List ℕ → List ℕ → List ℕ → List ℕ → ℕ → Type 0
IsKnown done stack old new n = (Contains done n × (new ≡ old)) ⊎ ((k : ℕ) × (k < length stack) × (get_or stack k 0 ≡ n) × AreCutStarts old k new)

-- the names done reach only such names; those on the stack are not among them, and each of these reaches those of its group and of the later ones
pub record IsGrouped (lib : Library) (done stack starts : List ℕ) : Type 0 where
  pub closed : HasItsCalls lib done
  pub apart : (q : ℕ) → Contains stack q → Contains done q → ⊥
  pub reach : (j k : ℕ) → j < length stack → k < length stack → IsUpTo starts j k → Reaches lib (get_or stack j 0) (get_or stack k 0)
  pub descends : Descends starts
  pub first : 0 < length stack → Contains starts 0

-- each call of the name at the place of the stack has been followed, or is left
abbrev pub IsFollowed : Library → List ℕ → List ℕ → List ℕ → ℕ → ℕ → Type 0
IsFollowed lib done stack starts j next =
    (n : ℕ) → CallsName lib (get_or stack j 0) n → IsMet done stack starts j n ⊎ IsLeft lib (get_or stack j 0) next n
