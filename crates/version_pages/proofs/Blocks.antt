-- What stands at a place of a row, by the blocks that hold it.
use Rattle.std.proofs.Common.{◌≡◌, ℕ, ◌+◌, ◌*◌, ◌/◌, ◌%◌, ◌<◌, ◌≤◌, ◌≢◌, List, [], length, refl, sym, ap, set, ◌∙◌, arith, inl, inr}
use Rattle.std.specs.Prelude.{Option, None, Some, IsSome}
use Rattle.std.specs.Option.{option_and_then, option_map}
use Rattle.std.specs.Arc.{arc_value}
use Rattle.std.specs.declared.sync.Arc.{Arc}
use Rattle.std.proofs.lemmas.Bool.{cases_lt}
use Rattle.std.proofs.lemmas.List.{get_or_past, length-map}
use Rattle.std.proofs.lemmas.List.FromFn.{length-map-range_with_len, get_or-map-range_with_len}
use Rattle.version_pages.proofs.Rows.{place_held_set_here, place_held_set_other}
use Rattle.version_pages.proofs.Widths.{on_page_past, IsPut, in_width-put_here, in_width-put_other, in_width-changed_other, in_width-row, none_up_to}
use Rattle.version_pages.specs.Table.{place, held, on_page, in_blocks, row_of_blocks}

pub length-row_of : {T : Type 0} (blocks : List (Option (List (Option T)))) → length (row_of_blocks blocks) ≡ 25 * length blocks
unfolding row_of_blocks
length-row_of blocks = length-map-range_with_len (in_blocks blocks) 0 (25 * length blocks)

pub length-held : {X Z : Type 0} (items : List (Option (Arc X Z))) → length (held items) ≡ length items
length-held items = length-map items (option_map arc_value)

pub length-row_of_held : {X Z : Type 0} (items : List (Option (Arc (List (Option X)) Z))) → length (row_of_blocks (held items)) ≡ 25 * length items
length-row_of_held items = length-row_of (held items) ∙ ap (λ (n : ℕ). 25 * n) (length-map items (option_map arc_value))

pub row_of-nil : {T : Type 0} → row_of_blocks {T = T} [] ≡ []
unfolding row_of_blocks
row_of-nil = refl

in_blocks_past : {T : Type 0} (blocks : List (Option (List (Option T)))) (k : ℕ) → 25 * length blocks ≤ k → in_blocks blocks k ≡ None
in_blocks_past blocks k le = on_page_past blocks (k / 25) (k % 25) (omega arith)

place-below : {T : Type 0} (blocks : List (Option (List (Option T)))) (k : ℕ) → k < 25 * length blocks → place (row_of_blocks blocks) k ≡ in_blocks blocks k
unfolding row_of_blocks
place-below blocks k lt = get_or-map-range_with_len (in_blocks blocks) 0 (25 * length blocks) k k None lt (omega arith)

pub place-row_of : {T : Type 0} (blocks : List (Option (List (Option T)))) (k : ℕ) → place (row_of_blocks blocks) k ≡ in_blocks blocks k
place-row_of blocks k =
    elim (cases_lt k (25 * length blocks)) [
      | inl below ↦ place-below blocks k below
      | inr past ↦
          let end : length (row_of_blocks blocks) ≤ k = omega (arith, length-row_of blocks) in
          get_or_past (row_of_blocks blocks) k None end ∙ sym (in_blocks_past blocks k past)
    ]

-- the search for the next place has come to a place of a block, and found nothing before it
pub record IsSearched {T : Type 0} (blocks : List (Option (List (Option T)))) (from block start : ℕ) : Type 0 where
  pub small : start < 25
  pub above : from ≤ block * 25 + start
  pub none : (k : ℕ) → from ≤ k → k < block * 25 + start → in_blocks blocks k ≡ None

pub searched_from : {T : Type 0} (blocks : List (Option (List (Option T)))) (from : ℕ) → IsSearched blocks from (from / 25) (from % 25)
searched_from blocks from = record {
  small = omega arith;
  above = omega arith;
  none = λ k le lt. absurd (omega arith);
}

-- a block in which nothing stands from a place on is passed over
pub searched_over : {T : Type 0} (blocks : List (Option (List (Option T)))) (from block start : ℕ) → IsSearched blocks from block start
    → ((k : ℕ) → start ≤ k → k < 25 → on_page blocks block k ≡ None) → IsSearched blocks from (block + 1) 0
searched_over blocks from block start is none = record {
  small = omega arith;
  above = let a = is.above in let s = is.small in omega arith;
  none = λ k le lt. none_up_to 25 blocks (λ q. from ≤ q) block start 25 (omega arith) is.none none k le (omega arith);
}

-- nothing stands before the next place that holds something
pub searched_least : {T : Type 0} (blocks : List (Option (List (Option T)))) (from block start at : ℕ) → IsSearched blocks from block start → at < 25
    → ((k : ℕ) → start ≤ k → k < at → on_page blocks block k ≡ None) → (k : ℕ) → from ≤ k → k < block * 25 + at → place (row_of_blocks blocks) k ≡ None
searched_least blocks from block start at is fits least k le lt =
    place-row_of blocks k ∙ none_up_to 25 blocks (λ q. from ≤ q) block start at (omega arith) is.none least k le lt

pub searched_found : {T : Type 0} (blocks : List (Option (List (Option T)))) (from block start at : ℕ) → IsSearched blocks from block start → at < 25
    → IsSome (on_page blocks block at) → IsSome (place (row_of_blocks blocks) (block * 25 + at))
searched_found blocks from block start at is fits found = rw (place-row_of blocks (block * 25 + at), in_width-row 25 blocks block at fits) found

-- and past the last block nothing stands
pub searched_done : {T : Type 0} (blocks : List (Option (List (Option T)))) (from block start : ℕ) → IsSearched blocks from block start → length blocks ≤ block
    → (k : ℕ) → from ≤ k → place (row_of_blocks blocks) k ≡ None
searched_done blocks from block start is past k le =
    place-row_of blocks k
    ∙ elim (cases_lt k (block * 25 + start)) [
      | inl below ↦ is.none k le below
      | inr ge ↦ in_blocks_past blocks k (omega arith)
    ]

-- one place of one block is written
pub put_here : {T : Type 0} (old new : List (Option (List (Option T)))) (block : List (Option T)) (at : ℕ) (value : T)
    → IsPut old new block (at / 25) (at % 25) value → place (row_of_blocks new) at ≡ Some value
put_here old new block at value is = place-row_of new at ∙ in_width-put_here 25 old new block at value is

pub put_other : {T : Type 0} (old new : List (Option (List (Option T)))) (block : List (Option T)) (at : ℕ) (value : T)
    → IsPut old new block (at / 25) (at % 25) value → (k : ℕ) → k ≢ at → place (row_of_blocks new) k ≡ place (row_of_blocks old) k
put_other old new block at value is k ne =
    place-row_of new k ∙ in_width-put_other 25 old new block at value is k ne ∙ sym (place-row_of old k)

-- one place of one block may have changed, and nothing else
pub changed_other : {T : Type 0} (old new : List (Option (List (Option T)))) (at : ℕ)
    → ((k : ℕ) → k ≢ at / 25 → place new k ≡ place old k) → ((k : ℕ) → k ≢ at % 25 → on_page new (at / 25) k ≡ on_page old (at / 25) k)
    → (k : ℕ) → k ≢ at → place (row_of_blocks new) k ≡ place (row_of_blocks old) k
changed_other old new at blocks spots k ne =
    place-row_of new k ∙ in_width-changed_other 25 old new at blocks spots k ne ∙ sym (place-row_of old k)

-- what is taken out of a place's block is what stood at the place
pub taken_here : {T : Type 0} (old : List (Option (List (Option T)))) (at : ℕ) (block : Option (List (Option T))) (out : Option T)
    → out ≡ option_and_then (λ b. place b (at % 25)) block → block ≡ place old (at / 25) → out ≡ place (row_of_blocks old) at
taken_here old at block out is here = is ∙ ap (option_and_then (λ b. place b (at % 25))) here ∙ sym (place-row_of old at)

module _ {X Z : Type 0} where
  pub place_past : (items : List (Option (Arc (List (Option X)) Z))) (at : ℕ) → length items ≤ at / 25 → place (row_of_blocks (held items)) at ≡ None
  place_past items at past =
      let end : length (held items) ≤ at / 25 = omega (arith, length-map items (option_map arc_value)) in
      place-row_of (held items) at ∙ on_page_past (held items) (at / 25) (at % 25) end

  -- all other places have what they had, once the block is put back
  pub taken_others : (old : List (Option (List (Option X)))) (items : List (Option (Arc (List (Option X)) Z))) (at : ℕ) (block : Option (List (Option X))) (left : Option (Arc (List (Option X)) Z))
      → at / 25 < length items → block ≡ place old (at / 25) → ((k : ℕ) → k ≢ at / 25 → place (held items) k ≡ place old k)
      → ((k : ℕ) → k ≢ at % 25 → option_and_then (λ b. place b k) (option_map arc_value left) ≡ option_and_then (λ b. place b k) block)
      → (k : ℕ) → k ≢ at → place (row_of_blocks (held (set items (at / 25) left))) k ≡ place (row_of_blocks old) k
  taken_others old items at block left lt here blocks spots k ne =
      changed_other old (held (set items (at / 25) left)) at
      (λ q off. place_held_set_other items (at / 25) left q off ∙ blocks q off)
      (λ q off. ap (option_and_then (λ b. place b q)) (place_held_set_here items (at / 25) left lt) ∙ spots q off ∙ ap (option_and_then (λ b. place b q)) here)
      k ne
