-- Which pairs are reached from a pair by calls of nodes. Only clauses of private functions use what stands here.
use Rattle.std.specs.Prelude.{ℕ, zero, suc, ◌<◌, ◌≡◌, pos, true, List, [], ◌++◌, Contains}
use Rattle.std.specs.declared.option.Option.{Option}
use Rattle.std.specs.declared.option.Option.TheVariants.{Some, None}
use Rattle.std.specs.Option.{option_map_or}
use Rattle.std.specs.BTreeSet as sorted
use Rattle.std.specs.BTreeSet.{BTreeSet}
use Rattle.loda_semantics.specs.declared.kinds.Pair.{Pair}
use Rattle.demand_table.specs.declared.node.Node.{Node}
use Rattle.demand_table.specs.Drawn.{Drawing}
use Rattle.demand_table.specs.Loaded.{Key, key_of, key_cmp, the_pair}

-- the pairs that the node of a pair calls
abbrev pub calls_at : Drawing → Pair → List Pair
calls_at D p = option_map_or (λ (n : Node). n.calls) (D p) []

-- n calls lead from the one pair to the other
abbrev pub Leads : Drawing → ℕ → Pair → Pair → Type 0
Leads D zero from to = from ≡ to
Leads D (suc n) from to = (next : Pair) × Contains (calls_at D from) next × Leads D n next to

-- one or more calls lead from the one pair to the other
abbrev pub LeadsTo : Drawing → Pair → Pair → Type 0
LeadsTo D from to = (n : ℕ) × Leads D (suc n) from to

-- None of the pairs calls this one, and what they call is among them: none of them leads to it.
abbrev pub AreBarren : Drawing → Pair → List Pair → Type 0
AreBarren D to pairs = (p : Pair) → Contains pairs p → (Contains (calls_at D p) to → ⊥) × ((c : Pair) → Contains (calls_at D p) c → Contains pairs c)

-- the set has just the pairs of the list
abbrev pub HasJust : BTreeSet Key → List Pair → Type 0
HasJust met list = (q : Pair) → (sorted.contains key_cmp met (key_of q) ≡ true → Contains list q) × (Contains list q → sorted.contains key_cmp met (key_of q) ≡ true)

-- The list has grown at its end by pairs that were found, and has them all.
pub record AddsPairs (old new found : List Pair) : Type 0 where
  pub rest : List Pair
  pub grown : new ≡ old ++ rest
  pub adds : (q : Pair) → Contains found q → Contains new q
  pub only : (q : Pair) → Contains rest q → Contains found q

-- the first of so many arguments of a name from which calls lead to the pair, or none of them does
abbrev pub IsFirstLeading : Drawing → ℕ → ℕ → Pair → Option ℕ → Type 0
IsFirstLeading D name checked to (Some index) =
    (index < checked) × LeadsTo D (the_pair name (pos index)) to × ((i : ℕ) → i < index → LeadsTo D (the_pair name (pos i)) to → ⊥)
IsFirstLeading D name checked to None = (i : ℕ) → i < checked → LeadsTo D (the_pair name (pos i)) to → ⊥
