-- A table of pages, each with 1,000 places, as the map that it stands for.
use Rattle.std.specs.Prelude.{ℕ, zero, suc, ◌*◌, ◌/◌, ◌%◌, List, length, Option, None, Some, slice_index_or, map}
use Rattle.std.specs.List.{range_with_len}
use Rattle.std.specs.Option.{option_and_then, option_map}
use Rattle.std.specs.Arc.{arc_value}
use Rattle.std.specs.declared.sync.Arc.{Arc}
use Rattle.std.specs.Ordering.{nat_cmp}
use Rattle.std.specs.FinMap.{FinMap, empty, insert}

-- the values in a row of places that are held by `Arc`
abbrev pub held : {X Z : Type 0} → List (Option (Arc X Z)) → List (Option X)
held = map (option_map arc_value)

module _ {T : Type 0} where
  -- what stands at a place of a row: past the row's end, nothing
  abbrev pub place : List (Option T) → ℕ → Option T
  place row at = slice_index_or row at None

  -- a map with one more entry, where there is a value for it
  abbrev pub with_entry : FinMap nat_cmp T → ℕ → Option T → FinMap nat_cmp T
  with_entry m key None = m
  with_entry m key (Some value) = insert m key value

  -- the map that has at each number below n what f gives there
  unfoldable pub map_below : (ℕ → Option T) → ℕ → FinMap nat_cmp T
  map_below f zero = empty
  map_below f (suc n) = with_entry (map_below f n) n (f n)

-- what stands at a place of a page of a table, or of a block of a row: the page or the block may be absent
abbrev pub on_page : {T : Type 0} → List (Option (List (Option T))) → ℕ → ℕ → Option T
on_page table page at = option_and_then (λ row. place row at) (place table page)

-- what stands at a name: its page is name / 1000, and its place on the page name % 1000
abbrev pub at_name : {T : Type 0} → List (Option (List (Option T))) → ℕ → Option T
at_name table name = on_page table (name / 1000) (name % 1000)

-- the map from names that a table stands for
unfoldable pub map_of : {T : Type 0} → List (Option (List (Option T))) → FinMap nat_cmp T
map_of table = map_below (at_name table) (1000 * length table)

-- what stands at a place of a row that is held in blocks: its block is at / 25, and its place in the block at % 25
abbrev pub in_blocks : {T : Type 0} → List (Option (List (Option T))) → ℕ → Option T
in_blocks blocks at = on_page blocks (at / 25) (at % 25)

-- the places of a row that is held in blocks, in their order
unfoldable pub row_of_blocks : {T : Type 0} → List (Option (List (Option T))) → List (Option T)
row_of_blocks blocks = map (in_blocks blocks) (range_with_len 0 (25 * length blocks))
