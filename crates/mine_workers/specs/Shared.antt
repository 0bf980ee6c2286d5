-- What contracts see of a shared store and of its seats.
use Rattle.std.specs.Prelude.{◌≡◌, ◌≤◌, ◌<◌, ℕ, List, [], ◌∷◌, ◌++◌, reverse, length}
use mathlib.Core.List.{IsPrefix}
use Rattle.turnstile.specs.declared.known.Known.{Known}
use Rattle.turnstile.specs.Seats.{TurnstileView, SeatView, Belongs}
use Rattle.evidence.specs.Dossiers.{Dossier, Snapshot}
use Rattle.publish_desk.specs.declared.charter.Charter.{Charter}
use Rattle.publish_desk.specs.declared.entry.Entry.{Entry}
use Rattle.publish_desk.specs.declared.verdict.Verdict.{Verdict}
use Rattle.publish_desk.specs.declared.verdict.Verdict.TheVariants.{Decided, Again, AlreadyDone}
use Rattle.publish_desk.specs.History.{replay, version_of, IsLegal}
use Rattle.publish_desk.specs.Desk.{Desk, terms_of, origin_of, IsKept, IsVerdict}

-- the journal is legal for the opening store, the terms, the limit, the source and the jobs of a charter
abbrev pub IsLegalFor : Charter → List Entry → Type 0
IsLegalFor c journal = IsLegal c.opening (terms_of c) c.limit (origin_of c) c.jobs (reverse journal)

-- the desk of a charter with this journal: its version and its store are what the journal replays to
abbrev pub desk_of : Charter → List Entry → Desk
desk_of c journal = record { charter = c; journal = journal; version = version_of (reverse journal); store = replay c.opening (reverse journal) }

-- a snapshot of a desk
abbrev pub snapshot_of : Desk → Snapshot
snapshot_of d = record { store = d.store; version = d.version; length = length d.journal }

-- The seat is one of this store's: it is one of its turnstile's, and what it has seen is legal for the charter of the desk that the store
-- was made of.
abbrev pub IsSeatOf : TurnstileView Charter → SeatView Entry Charter → Type 0
IsSeatOf store seat = Belongs store seat × IsLegalFor store.fixed seat.known.seen

-- A look: what the seat has seen now is the journal that was found. It begins with what the seat had seen, and is as long as each length
-- that the seat was told. Nothing else of the seat changed, but for its failed tries.
pub record Looked (k k' : Known Entry) : Type 0 where
  pub begins : IsPrefix k.seen k'.seen
  pub told : k.told ≤ length k'.seen
  pub fails : k.fails ≤ k'.fails
  pub same : k' ≡ record k { seen = k'.seen; fails = k'.fails }

-- the entry of a dossier
abbrev pub entry_of : Dossier → Entry
entry_of d = record { job = d.job; base = d.base; finding = d.finding }

-- the entries that a seat added, each with its place, after a publish
abbrev pub added_after : List (ℕ × Entry) → Dossier → Verdict → List (ℕ × Entry)
added_after added d (Decided at) = added ++ (at, entry_of d) ∷ []
added_after added d (Again version first name back) = added
added_after added d (AlreadyDone at back) = added

-- A publish: the verdict is that of a desk with the journal that was found, and the seat has seen that desk's journal after it. What was
-- found begins with what the seat had seen, and is as long as each length that the seat was told. Nothing else of the seat changed, but
-- for what it added and its failed tries.
pub record Published (c : Charter) (k : Known Entry) (d : Dossier) (v : Verdict) (k' : Known Entry) : Type 0 where
  pub found : List Entry
  pub kept : IsKept (desk_of c found)
  pub begins : IsPrefix k.seen found
  pub told : k.told ≤ length found
  pub grown : IsPrefix k.seen k'.seen
  pub verdict : IsVerdict (desk_of c found) (desk_of c k'.seen) d v
  pub added : k'.added ≡ added_after k.added d v
  pub fails : k.fails ≤ k'.fails
  pub same : k' ≡ record k { seen = k'.seen; added = k'.added; fails = k'.fails }

-- The version that Again shows is greater than the one that the dossier saw, no more than there are jobs, and the version of what the
-- seat has seen now.
abbrev pub IsAgainBounded : Charter → Dossier → List Entry → Verdict → Type 0
IsAgainBounded c d seen (Decided at) = Unit {0}
IsAgainBounded c d seen (Again version first name back) = (d.snapshot.version < version) × (version ≤ c.jobs) × (version ≡ version_of (reverse seen))
IsAgainBounded c d seen (AlreadyDone at back) = Unit {0}
