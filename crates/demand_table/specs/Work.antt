-- Runs that are put in and taken out, with the numbers of their callers. Only clauses of private functions use what stands here.
use Rattle.std.specs.Prelude.{ℕ, ◌≡◌, ◌⊎◌, List, Contains, IsSome, suc}
use Rattle.std.specs.declared.option.Option.TheVariants.{Some, None}
use Rattle.loda_semantics.specs.declared.kinds.Pair.{Pair}
use Rattle.demand_table.specs.declared.entry.Entry.{Entry}
use Rattle.demand_table.specs.declared.slot.Slot.{Slot}
use Rattle.demand_table.specs.Counts.{IsCount}
use Rattle.demand_table.specs.Drawn.{CheckedRanges, Runs, IsChecked, RunCalls, IsReached}

-- a slot for each pair
abbrev pub Slots : Type 0
Slots = Pair → Slot

-- the runs that stand in the slots
abbrev pub runs_in : Slots → Runs
runs_in w p = (w p).entry

-- the second slots are the first, with this one at the pair
pub record IsSet (old new : Slots) (p : Pair) (s : Slot) : Type 0 where
  pub here : new p ≡ s
  pub others : (q : Pair) → (q ≡ p → ⊥) → new q ≡ old q

-- the slot after its run was taken out
abbrev pub without_run : Slot → Slot
without_run s = record { callers = s.callers; entry = None; total = None }

-- the slot with this total
abbrev pub with_total : Slot → ℕ → Slot
with_total s t = record { callers = s.callers; entry = s.entry; total = Some t }

-- a pair has one caller fewer, and so many are left
pub record IsLowered (old new : Slots) (p : Pair) (left : ℕ) : Type 0 where
  pub was : (old p).callers ≡ suc left
  pub set : IsSet old new p (record (old p) { callers = left })

-- Each pair on the list has one caller fewer, and every other as many as before. Those that nobody calls now are to be looked at.
pub record AreLowered (old new : Slots) (calls pending now : List Pair) : Type 0 where
  pub entry : (q : Pair) → (new q).entry ≡ (old q).entry
  pub total : (q : Pair) → (new q).total ≡ (old q).total
  pub lowered : (q : Pair) → Contains calls q → (old q).callers ≡ suc (new q).callers
  pub same : (q : Pair) → (Contains calls q → ⊥) → (new q).callers ≡ (old q).callers
  pub keeps : (q : Pair) → Contains pending q → Contains now q
  pub adds : (q : Pair) → Contains calls q → (new q).callers ≡ 0 → Contains now q

-- each pair on the list has one caller more, and every other as many as before
pub record AreRaised (old new : Slots) (calls : List Pair) : Type 0 where
  pub entry : (q : Pair) → (new q).entry ≡ (old q).entry
  pub total : (q : Pair) → (new q).total ≡ (old q).total
  pub raised : (q : Pair) → Contains calls q → (new q).callers ≡ suc (old q).callers
  pub same : (q : Pair) → (Contains calls q → ⊥) → (new q).callers ≡ (old q).callers

-- the slot with so many callers
abbrev pub with_callers : Slot → ℕ → Slot
with_callers s n = record { callers = n; entry = s.entry; total = s.total }

-- each slot has the number of the runs that call its pair
abbrev pub IsCounted : Slots → Type 0
IsCounted w = (p : Pair) → IsCount (λ from. RunCalls (runs_in w) from p) (w p).callers

-- the run of a pair is taken out, and what it called has one caller fewer
pub record IsTakenOut (old new : Slots) (p : Pair) (e : Entry) : Type 0 where
  pub was : (old p).entry ≡ Some e
  pub gone : (new p).entry ≡ None
  pub others : (q : Pair) → (q ≡ p → ⊥) → (new q).entry ≡ (old q).entry
  pub lowered : (q : Pair) → Contains e.calls q → (old q).callers ≡ suc (new q).callers
  pub same : (q : Pair) → (Contains e.calls q → ⊥) → (new q).callers ≡ (old q).callers

-- the run of a pair is put in, and what it calls has one caller more
pub record IsPut (old new : Slots) (p : Pair) (e : Entry) : Type 0 where
  pub was : (old p).entry ≡ None
  pub here : (new p).entry ≡ Some e
  pub others : (q : Pair) → (q ≡ p → ⊥) → (new q).entry ≡ (old q).entry
  pub raised : (q : Pair) → Contains e.calls q → (new q).callers ≡ suc (old q).callers
  pub same : (q : Pair) → (Contains e.calls q → ⊥) → (new q).callers ≡ (old q).callers

-- the totals of the runs that still stand are as before
abbrev pub KeepsTotals : Slots → Slots → Type 0
KeepsTotals old new = (p : Pair) → IsSome (new p).entry → (new p).total ≡ (old p).total

-- While dead runs are dropped: those that stand are some of R, the live ones among them, and what nobody calls and no check needs
-- is still to be looked at.
pub record IsDropping (C : CheckedRanges) (R : Runs) (w : Slots) (pending : List Pair) (left : ℕ) : Type 0 where
  pub within : (p : Pair) (e : Entry) → (w p).entry ≡ Some e → R p ≡ Some e
  pub kept : (p : Pair) → IsReached C R p → IsSome (w p).entry
  pub counted : IsCounted w
  pub waiting : (p : Pair) → IsSome (w p).entry → (w p).callers ≡ 0 → IsChecked C p ⊎ Contains pending p
  pub many : IsCount (λ p. IsSome (w p).entry) left

-- Dead runs are dropped: those that stand are the live ones.
pub record IsDropped (C : CheckedRanges) (R : Runs) (w : Slots) (left : ℕ) : Type 0 where
  pub within : (p : Pair) (e : Entry) → (w p).entry ≡ Some e → R p ≡ Some e
  pub kept : (p : Pair) → IsReached C R p → IsSome (w p).entry
  pub live : (p : Pair) → IsSome (w p).entry → IsReached C R p
  pub counted : IsCounted w
  pub many : IsCount (λ p. IsSome (w p).entry) left
