-- What stands at a place of a block, by the `Arc`s that hold it.
use Rattle.std.proofs.Common.{◌≡◌, ℕ, zero, suc, ◌<◌, ◌≤◌, ◌≢◌, List, [], ◌∷◌, length, false, true, is_some, get_or, set, refl, ap, sym, ◌∙◌, arith}
use Rattle.std.specs.Prelude.{Option, None, Some, IsSome}
use Rattle.std.specs.Option.{option_map}
use Rattle.std.specs.Arc.{arc_value}
use Rattle.std.specs.declared.sync.Arc.{Arc}
use Rattle.version_pages.specs.Table.{place, held}

module _ {X Z : Type 0} where
  pub place_held : (items : List (Option (Arc X Z))) (k : ℕ) (o : Option (Arc X Z)) → k < length items → o ≡ get_or items k o → place (held items) k ≡ option_map arc_value o
  place_held [] k o lt is = absurd (omega arith)
  place_held (x ∷ xs) zero o lt is = ap (option_map arc_value) (sym is)
  place_held (x ∷ xs) (suc k) o lt is = let below : k < length xs = omega arith in place_held xs k o below is

  empty_map : (o : Option (Arc X Z)) → is_some o ≡ false → option_map arc_value o ≡ None
  empty_map None e = refl
  empty_map (Some a) e = cc

  some_map : (o : Option (Arc X Z)) → is_some o ≡ true → IsSome (option_map arc_value o)
  some_map None e = cc
  some_map (Some a) e = refl

  pub place_held_none : (items : List (Option (Arc X Z))) (k : ℕ) (o : Option (Arc X Z)) → k < length items → o ≡ get_or items k o → is_some o ≡ false → place (held items) k ≡ None
  place_held_none items k o lt is none = place_held items k o lt is ∙ empty_map o none

  pub place_held_some : (items : List (Option (Arc X Z))) (k : ℕ) (o : Option (Arc X Z)) → k < length items → o ≡ get_or items k o → is_some o ≡ true → IsSome (place (held items) k)
  place_held_some items k o lt is some = rw (place_held items k o lt is) (some_map o some)

  pub place_held_past : (items : List (Option (Arc X Z))) (k : ℕ) → length items ≤ k → place (held items) k ≡ None
  place_held_past [] k le = refl
  place_held_past (x ∷ xs) zero le = absurd (omega arith)
  place_held_past (x ∷ xs) (suc k) le = let past : length xs ≤ k = omega arith in place_held_past xs k past

  -- one place is written
  pub place_held_set_here : (items : List (Option (Arc X Z))) (at : ℕ) (o : Option (Arc X Z)) → at < length items → place (held (set items at o)) at ≡ option_map arc_value o
  place_held_set_here [] at o lt = absurd (omega arith)
  place_held_set_here (x ∷ xs) zero o lt = refl
  place_held_set_here (x ∷ xs) (suc at) o lt = let below : at < length xs = omega arith in place_held_set_here xs at o below

  pub place_held_set_same : (items : List (Option (Arc X Z))) (at : ℕ) (a : Arc X Z) → at < length items → place (held (set items at (Some a))) at ≡ Some (arc_value a)
  place_held_set_same items at a lt = place_held_set_here items at (Some a) lt

  pub place_held_set_other : (items : List (Option (Arc X Z))) (at : ℕ) (o : Option (Arc X Z)) (k : ℕ) → k ≢ at → place (held (set items at o)) k ≡ place (held items) k
  place_held_set_other [] at o k ne = refl
  place_held_set_other (x ∷ xs) zero o zero ne = absurd (ne refl)
  place_held_set_other (x ∷ xs) zero o (suc k) ne = refl
  place_held_set_other (x ∷ xs) (suc at) o zero ne = refl
  place_held_set_other (x ∷ xs) (suc at) o (suc k) ne = let apart : k ≢ at = λ e. ne (ap suc e) in place_held_set_other xs at o k apart
