-- What each step tells its seat: of the step, the seat before it, the number found and the seat after it. Only clauses of private functions use what stands here.
use Rattle.std.specs.Prelude.{◌≡◌, ◌≢◌, ◌≤◌, ◌++◌, ℕ, List, [], ◌∷◌, length, max, Option, Some, None}
use mathlib.Core.Option.{some}
use mathlib.Core.List.{IsPrefix}
use Rattle.atomic_table.specs.Table.{Step}
use Rattle.turnstile.specs.declared.known.Tracked.{Tracked}
use Rattle.turnstile.specs.Seats.{IsGiven, longer, newcomer, fresh, failed, turning, adding, resting, told_of}
use Rattle.turnstile.specs.Rule.{Carrier}

module _ {E F : Type 0} where
  -- a seat split from this one
  abbrev pub split_off : Tracked E F → Tracked E F
  split_off k = record { known = fresh k.known; fixed = k.fixed; beside = [] }

  -- a seat that another took in
  abbrev pub spent : Tracked E F
  spent = record { known = newcomer []; fixed = None; beside = [] }

  -- with what the other had seen beside its own, to be compared by the next step
  abbrev pub taken_in : Tracked E F → Tracked E F → Tracked E F
  taken_in k other = record k { known = record k.known { told = max k.known.told other.known.told }; beside = other.known.seen }

  -- with the longer of the two
  abbrev pub compared : Tracked E F → Tracked E F
  compared k = record k { known = record k.known { seen = longer k.known.seen k.beside }; beside = [] }

  -- once a value with this list has been counted
  abbrev pub Counted : List E → Tracked E F → Tracked E F → Type 0
  Counted now k k' = (now ≡ k.known.seen → k' ≡ k) × ((e : E) → now ≡ k.known.seen ++ e ∷ [] → k' ≡ record k { known = adding e k.known })

module _ {V E F : Type 0} where
  -- the word was loaded
  abbrev pub Peeked : Step (Option V) → Carrier V E F → ℕ → Carrier V E F → Type 0
  Peeked st m r m' = (m' ≡ (record m.0 { known = told_of r m.0.known }, m.1)) × (length m.0.known.seen ≤ r) × (m.0.known.told ≤ r)

  -- both lists begin the longer one
  abbrev pub Compared : Step (Option V) → Carrier V E F → ℕ → Carrier V E F → Type 0
  Compared st m r m' =
      (m' ≡ (compared m.0, m.1)) × IsPrefix m.0.known.seen (longer m.0.known.seen m.0.beside) × IsPrefix m.0.beside (longer m.0.known.seen m.0.beside)

  -- the slot and the turn were given
  abbrev pub Gave : Step (Option V) → Carrier V E F → ℕ → Carrier V E F → Type 0
  Gave st m r m' = m' ≡ (record m.0 { known = resting m.0.known }, [])

module _ {V E F : Type 0} (list : V → List E) (fixed : V → F) where
  -- what a seat learns of the value that it took
  pub record Learns (k : Tracked E F) (v : V) : Type 0 where
    pub began : IsPrefix k.known.seen (list v)
    pub told : k.known.told ≤ length (list v)
    pub fixed_is : (x : F) → k.fixed ≡ Some x → fixed v ≡ x

  -- the seat took the turn and the slot, or found the turn held
  abbrev pub Took : Step (Option V) → Carrier V E F → ℕ → Carrier V E F → Type 0
  Took st m r m' =
      (r ≡ 0 → (v : V) × (m' ≡ (record m.0 { known = turning (list v) m.0.known }, (0, Some v) ∷ [])) × Learns m.0 v)
      × (r ≢ 0 → m' ≡ (record m.0 { known = failed m.0.known }, []))

module _ {V E F : Type 0} (list : V → List E) where
  -- the length was raised for the last entry of the value that the step announced
  abbrev pub Raised : Step (Option V) → Carrier V E F → ℕ → Carrier V E F → Type 0
  Raised st m r m' =
      (m'.1 ≡ m.1) × ((v : V) (e : E) → st.said ≡ some (Some v) → list v ≡ m.0.known.seen ++ e ∷ [] → m'.0 ≡ record m.0 { known = adding e m.0.known })

-- a slot with a value of this length, which a seat that had seen this list may give
abbrev pub Offers : {V E : Type 0} → (V → List E) → List E → Option V → ℕ → Type 0
Offers {V} list seen slot count = (v : V) × (slot ≡ Some v) × (count ≡ length (list v)) × IsGiven seen (list v)
