-- What contracts see of a turnstile and of its seats.
use Rattle.std.specs.Prelude.{◌≡◌, ◌≤◌, ◌<◌, ◌+◌, ◌++◌, ◌⊎◌, ℕ, true, false, List, [], ◌∷◌, length, max, nat_lt, cond, slice_get, Option, Some}
use mathlib.Core.List.{IsPrefix}
use Rattle.atomic_table.specs.Seated.{TableId}
use Rattle.turnstile.specs.declared.known.Known.{Known}

-- a turnstile: its place, and the fixed part of the value that it was made with
pub record TurnstileView (F : Type 0) : Type 0 where
  pub place : TableId
  pub fixed : F

-- a seat: the place and the fixed part of its turnstile, and what it knows
pub record SeatView (E F : Type 0) : Type 0 where
  pub place : TableId
  pub fixed : Option F
  pub known : Known E

-- Each entry that was added stands in the list at its place, and the places ascend.
pub record Stands {E : Type 0} (seen : List E) (added : List (ℕ × E)) : Type 0 where
  pub there : (i : ℕ) (x : ℕ × E) → slice_get added i ≡ Some x → slice_get seen x.0 ≡ Some x.1
  pub ascend : (i j : ℕ) (x y : ℕ × E) → slice_get added i ≡ Some x → slice_get added j ≡ Some y → i < j → x.0 < y.0

-- the longer of two lists
abbrev pub longer : {E : Type 0} → List E → List E → List E
longer xs ys = cond (nat_lt (length xs) (length ys)) ys xs

-- the list that was taken, or that list and one entry more
abbrev pub IsGiven : {E : Type 0} → List E → List E → Type 0
IsGiven {E} seen now = (now ≡ seen) ⊎ ((e : E) × (now ≡ seen ++ e ∷ []))

module _ {E F : Type 0} where
  -- The seat is one of this turnstile's, and the entries that it added stand in what it has seen.
  abbrev pub Belongs : TurnstileView F → SeatView E F → Type 0
  Belongs t s = (s.place ≡ t.place) × (s.fixed ≡ Some t.fixed) × Stands s.known.seen s.known.added

  -- A value that a seat takes: its list begins with what the seat had seen and is as long as each length that the seat was told, and its fixed part is the turnstile's.
  abbrev pub IsTaken : {V : Type 0} → (V → List E) → (V → F) → TurnstileView F → SeatView E F → V → Type 0
  IsTaken list fixed t s v = IsPrefix s.known.seen (list v) × (s.known.told ≤ length (list v)) × (fixed v ≡ t.fixed)

module _ {E : Type 0} where
  -- a new seat that has seen this list
  abbrev pub newcomer : List E → Known E
  newcomer seen = record { seen = seen; added = []; told = 0; turn = false; loads = 0; fails = 0 }

  -- a seat that has seen and was told the same, and did nothing yet
  abbrev pub fresh : Known E → Known E
  fresh k = record (newcomer k.seen) { told = k.told }

  -- after a try that found the turn held
  abbrev pub failed : Known E → Known E
  failed k = record k { fails = k.fails + 1 }

  -- with the turn, over a value with this list
  abbrev pub turning : List E → Known E → Known E
  turning seen k = record k { seen = seen; turn = true }

  -- after an entry was added behind what was seen
  abbrev pub adding : E → Known E → Known E
  adding e k = record k { seen = k.seen ++ e ∷ []; added = k.added ++ (length k.seen, e) ∷ [] }

  -- without the turn
  abbrev pub resting : Known E → Known E
  resting k = record k { turn = false }

  -- after a load that found this length
  abbrev pub told_of : ℕ → Known E → Known E
  told_of n k = record k { told = n; loads = k.loads + 1 }

  -- with what another seat had seen and was told
  abbrev pub joined : Known E → Known E → Known E
  joined k other = record k { seen = longer k.seen other.seen; told = max k.told other.told }

  -- The seat took a value with this list, after some tries.
  abbrev pub Taking : List E → Known E → Known E → Type 0
  Taking seen k k' = (k.fails ≤ k'.fails) × (k' ≡ record (turning seen k) { fails = k'.fails })

  -- The seat gave a value with this list back.
  abbrev pub Giving : List E → Known E → Known E → Type 0
  Giving now k k' = (now ≡ k.seen → k' ≡ resting k) × ((e : E) → now ≡ k.seen ++ e ∷ [] → k' ≡ resting (adding e k))

  -- The seat keeps both lists, each of which begins the longer one.
  abbrev pub Joining : Known E → Known E → Known E → Type 0
  Joining k other k' = (k' ≡ joined k other) × IsPrefix k.seen k'.seen × IsPrefix other.seen k'.seen
