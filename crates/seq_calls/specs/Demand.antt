-- Which arguments a run demands of a name, and which the published programs demand at their checked arguments.
use Rattle.std.specs.Prelude.{ℕ, ◌-◌, ◌^◌, ◌<◌, ◌≤◌, ◌≡◌, ◌⊎◌, ℤ, pos}
use Rattle.std.specs.declared.option.Option.TheVariants.{Some}
use Rattle.loda_semantics.specs.Exec.{Calls, none, call, run_name}
use Rattle.program_store.specs.declared.published.Published.{Published}
use Rattle.program_store.specs.Store.{Store, published_at, programs_of, checked_at}

-- The call of q at x is among them, at any depth. The calls of iterations that were undone are among them too.
abbrev pub InTrace : ℕ → ℤ → Calls → Type 0
InTrace q x none = ⊥
InTrace q x (call r y o inner rest) = ((q ≡ r) × (x ≡ y)) ⊎ (InTrace q x inner ⊎ InTrace q x rest)

-- at least as many steps as any checked run uses
unfoldable pub ample : ℕ
ample = 2 ^ 64 - 1

-- the run of a published name at one of its checked arguments calls q at x
abbrev pub Demands : Store → ℕ → ℕ → ℕ → ℤ → Type 0
Demands s caller index q x =
    (e : Published) × (published_at s caller ≡ Some e) × (index < e.checked) × InTrace q x (run_name (programs_of s) caller (pos index) ample).1

-- the least pair of a published name and a checked argument whose run demands x
abbrev pub LeastCaller : Store → ℕ → ℤ → ℕ → ℕ → Type 0
LeastCaller s q x caller index =
    Demands s caller index q x
    × ((c i : ℕ) → Demands s c i q x → (caller < c) ⊎ ((caller ≡ c) × (index ≤ i)))

-- x is demanded of q
abbrev pub InDem : Store → ℕ → ℤ → Type 0
InDem s q x = (caller index : ℕ) × Demands s caller index q x

-- x is an argument of q that others rely on: it was checked, or is demanded
abbrev pub IsReliedOn : Store → ℕ → ℤ → Type 0
IsReliedOn s q x = ((i : ℕ) × (i < checked_at s q) × (x ≡ pos i)) ⊎ InDem s q x
