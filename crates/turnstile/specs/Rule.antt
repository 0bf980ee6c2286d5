-- The rule that ties the words, the slot and what all seats know to one history. Only clauses of private functions use what stands here.
-- Word 0 is the length of the history, and word 1 is 1 while a seat holds the turn. The value lies in the slot, or is out with that seat.
use Rattle.std.specs.Prelude.{◌≡◌, ◌≢◌, ◌≤◌, ℕ, true, false, List, [], ◌∷◌, length, Option, Some, None}
use mathlib.Core.Option.{some, none}
use mathlib.Core.List.{IsPrefix}
use lib.ListN.{get_elem?}
use Rattle.atomic_table.specs.Table.{State, Me}
use Rattle.turnstile.specs.declared.known.Tracked.{Tracked}
use Rattle.turnstile.specs.Seats.{newcomer}

-- a seat at the table: what is tracked of it, and the slots that it carries
abbrev pub Carrier : Type 0 → Type 0 → Type 0 → Type 0
Carrier V E F = Me (Option V) (Tracked E F)

module _ {E F : Type 0} where
  -- of a new seat
  abbrev pub tracking : List E → F → Tracked E F
  tracking seen f = record { known = newcomer seen; fixed = Some f; beside = [] }

  -- what the rule says of the seat j
  pub record Follows (log : List E) (turn holder : ℕ) (f : F) (j : ℕ) (k : Tracked E F) : Type 0 where
    pub began : IsPrefix k.known.seen log
    pub beside : IsPrefix k.beside log
    pub told : k.known.told ≤ length log
    pub turned : k.known.turn ≡ true → (turn ≡ 1) × (j ≡ holder) × (k.known.seen ≡ log)
    pub fixed : (x : F) → k.fixed ≡ Some x → x ≡ f

-- A seat without the turn carries nothing. One with the turn carries the empty slot, and remembers the length of the list that it took.
abbrev pub Holding : {V E F : Type 0} → Carrier V E F → ℕ → Type 0
Holding m taken = (m.0.known.turn ≡ false → m.1 ≡ []) × (m.0.known.turn ≡ true → (m.1 ≡ (0, None) ∷ []) × (taken ≡ length m.0.known.seen))

module _ {V E F : Type 0} (list : V → List E) (fixed : V → F) where
  -- the value lies in the slot, and its list is the history
  abbrev pub AtHome : List E → F → List (mathlib.Core.Option.Option (Option V)) → Type 0
  AtHome log f homes = (v : V) × (homes ≡ some (Some v) ∷ []) × (list v ≡ log) × (fixed v ≡ f)

  -- the rule of a turnstile that was made with the value `key`
  pub record Ruled (key : V) (s : State (Option V) (Tracked E F)) : Type 0 where
    pub log : List E
    pub turn : ℕ
    pub holder : ℕ
    pub words : s.words ≡ length log ∷ turn ∷ []
    pub home : turn ≡ 0 → AtHome log (fixed key) s.homes
    pub away : turn ≢ 0 → s.homes ≡ none ∷ []
    pub each_seat : (j : ℕ) (k : Tracked E F) → get_elem? s.views j ≡ some k → Follows log turn holder (fixed key) j k
