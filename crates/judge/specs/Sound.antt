-- When a store is sound, and why it isn't.
use Rattle.std.specs.Prelude.{ℕ, ◌<◌, ◌≤◌, ◌≡◌, ◌⊎◌, ℤ, pos, List, length}
use Rattle.std.specs.declared.option.Option.TheVariants.{Some, None}
use Rattle.program_store.specs.declared.published.Published.{Published}
use Rattle.program_store.specs.Store.{Store, published_at, programs_of}
use Rattle.program_store.specs.Graph.{NoCycle, OnCycle}
use Rattle.seq_calls.specs.Values.{outcome}
use Rattle.judge.specs.declared.answer.Unsound.{Unsound}
use Rattle.judge.specs.declared.answer.Unsound.TheVariants.{Cycle, NoRow, Count, Unmet}
use Rattle.judge.specs.Passed.{Terms, got_of, PassesBelow, FailsFirst}

-- The name has a row, and its checked count is from 8 to the number of usable terms and of leading terms that are given.
abbrev pub IsEntrySound : Store → Terms → ℕ → ℕ → Published → Type 0
IsEntrySound s terms limit q e =
    (row : List ℤ) × (terms q ≡ Some row) × (8 ≤ e.checked) × (e.checked ≤ length row) × PassesBelow (programs_of s) row q limit e.checked

-- no cycle of calls, and each entry gives its checked terms
pub record Sound (s : Store) (terms : Terms) (limit : ℕ) : Type 0 where
  pub acyclic : NoCycle (programs_of s)
  pub each : (q : ℕ) (e : Published) → published_at s q ≡ Some e → IsEntrySound s terms limit q e

-- every published name below q breaks no rule
abbrev pub SoundBelow : Store → Terms → ℕ → ℕ → Type 0
SoundBelow s terms limit q = (r : ℕ) (e : Published) → r < q → published_at s r ≡ Some e → IsEntrySound s terms limit r e

-- Why a store isn't sound: the least name on a cycle, else the first fault of the least name that has one.
abbrev pub IsUnsound : Store → Terms → ℕ → Unsound → Type 0
IsUnsound s terms limit (Cycle through) = OnCycle (programs_of s) through × ((r : ℕ) → r < through → OnCycle (programs_of s) r → ⊥)
IsUnsound s terms limit (NoRow name) =
    NoCycle (programs_of s) × SoundBelow s terms limit name × (e : Published) × (published_at s name ≡ Some e) × (terms name ≡ None)
IsUnsound s terms limit (Count name checked usable) =
    NoCycle (programs_of s) × SoundBelow s terms limit name
    × (e : Published) × (row : List ℤ) × (published_at s name ≡ Some e) × (terms name ≡ Some row)
    × (checked ≡ e.checked) × (usable ≡ length row) × ((checked < 8) ⊎ (usable < checked))
IsUnsound s terms limit (Unmet name index got) =
    NoCycle (programs_of s) × SoundBelow s terms limit name
    × (e : Published) × (row : List ℤ) × (published_at s name ≡ Some e) × (terms name ≡ Some row)
    × (8 ≤ e.checked) × (e.checked ≤ length row) × (index < e.checked)
    × FailsFirst (programs_of s) row name limit index × (got ≡ got_of (outcome (programs_of s) name (pos index) limit))
