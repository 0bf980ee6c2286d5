-- Rows by the keys of their terms. Only clauses of private functions use what stands here.
use Rattle.std.specs.Prelude.{ℕ, ◌≡◌, ◌==◌, ℤ, List, [], ◌∷◌, filter, map, nat_eq, Bool}
use Rattle.std.specs.Global.{Vec}
use Rattle.std.specs.List.{AllByRecursion}
use Rattle.std.specs.Option.{option_map_or}
use Rattle.indexmap.specs.IndexMap.{IndexMap, get}
use Rattle.oeis_terms.specs.Table.{Row}
use Rattle.checked_numbers.specs.Numbers.{IsNumber}
use Rattle.term_index.specs.Keys.{line_key, terms_key}
use Rattle.term_index.specs.Matching.{shortened}

-- the rows that stand under a key
abbrev pub under : {S : Type 0} → IndexMap ℕ (Vec Row) S → ℕ → List Row
under buckets key = option_map_or (λ v. v.items) (get nat_eq buckets key) []

-- the row has this key
abbrev pub has_key : (List ℤ → ℕ) → ℕ → Row → Bool
has_key key_of key row = key_of row.1 == key

-- each integer is a number
abbrev pub AllNumbers : List ℤ → Type 0
AllNumbers [] = Unit {0}
AllNumbers (x ∷ xs) = IsNumber x × AllNumbers xs

-- the terms of each row are numbers
abbrev pub AreOfNumbers : List Row → Type 0
AreOfNumbers rows = AllByRecursion (λ (r : Row). AllNumbers r.1) rows

-- under each key stand the rows of that key, in their order
abbrev pub AreUnderKeys : {S : Type 0} → (List ℤ → ℕ) → List Row → IndexMap ℕ (Vec Row) S → Type 0
AreUnderKeys key_of rows buckets = (key : ℕ) → under buckets key ≡ filter (has_key key_of key) rows

-- The rows, with their first eight terms, stand under the keys of their terms and under those of their lines, and their terms are numbers.
pub record AreBuckets {S : Type 0} (rows : List Row) (equals lines : IndexMap ℕ (Vec Row) S) : Type 0 where
  pub by_terms : AreUnderKeys terms_key (map shortened rows) equals
  pub by_line : AreUnderKeys line_key (map shortened rows) lines
  pub numbers : AreOfNumbers (map shortened rows)
