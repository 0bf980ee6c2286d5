-- What judging a proposal answers.
use Rattle.std.specs.Prelude.{ℕ, ◌<◌, ◌≤◌, ◌≡◌, ◌⊎◌, max, IsFalse, ℤ, pos, ◌<ℤ◌, List, length, Contains}
use Rattle.std.specs.declared.option.Option.TheVariants.{Some, None}
use Rattle.loda_syntax.specs.Programs.{Text, instrs}
use Rattle.loda_semantics.specs.Exec.{Library}
use Rattle.program_store.specs.declared.published.Published.{Published}
use Rattle.program_store.specs.Store.{Store, published_at, programs_of, checked_at, after, IsPublished}
use Rattle.program_store.specs.Graph.{calls_of, Reaches, FirstWith}
use Rattle.seq_calls.specs.Demand.{InDem, IsReliedOn, LeastCaller}
use Rattle.seq_calls.specs.Values.{outcome, Gives}
use Rattle.seq_calls.specs.Frames.{steps_of}
use Rattle.judge.specs.declared.answer.Got.TheVariants as got
use Rattle.judge.specs.declared.answer.Answer.{Answer}
use Rattle.judge.specs.declared.answer.Answer.TheVariants.{Accepted, Unlisted, Cycle, WrongTerm, BrokenDependant, Costlier, NoGain}
use Rattle.judge.specs.Passed.{Terms, got_of, agree, PassesBelow, FailsFirst}

-- P holds at x and at nothing less
abbrev pub LeastWith : (ℤ → Type 0) → ℤ → Type 0
LeastWith P x = P x × ((y : ℤ) → y <ℤ x → P y → ⊥)

-- The new checked count: all usable terms are given, or the steps run out past the old count and eight.
abbrev pub IsNewChecked : Library → List ℤ → ℕ → ℕ → ℕ → ℕ → Type 0
IsNewChecked lib row q limit old checked =
    (PassesBelow lib row q limit checked × (checked ≡ length row))
    ⊎ (FailsFirst lib row q limit checked × (got_of (outcome lib q (pos checked) limit) ≡ got.OutOfSteps) × (max 8 old ≤ checked))

-- the value at a demanded argument isn't the old one
abbrev pub Breaks : Store → ℕ → ℕ → Text → ℤ → Type 0
Breaks s limit q p x = InDem s q x × IsFalse (agree (outcome (programs_of s) q x limit) (outcome (after s q p) q x limit))

-- an argument that is relied on takes more steps
abbrev pub CostsMore : Store → ℕ → ℕ → Text → ℤ → Type 0
CostsMore s limit q p x =
    IsReliedOn s q x × (steps_of (outcome (programs_of s) q x limit) < steps_of (outcome (after s q p) q x limit))

-- no more terms are checked, no checked argument is cheaper, and the text is no shorter
abbrev pub Gainless : Store → ℕ → ℕ → Text → ℕ → Type 0
Gainless s limit q p checked =
    (checked ≡ checked_at s q)
    × ((i : ℕ) → i < checked_at s q → steps_of (outcome (programs_of s) q (pos i) limit) ≡ steps_of (outcome (after s q p) q (pos i) limit))
    × ((e : Published) → published_at s q ≡ Some e → length (instrs e.program) ≤ length (instrs p))

-- it has a row and closes no cycle
pub record Enters (s : Store) (terms : Terms) (q : ℕ) (p : Text) (row : List ℤ) : Type 0 where
  pub listed : terms q ≡ Some row
  pub acyclic : (name : ℕ) → Contains (calls_of p) name → Reaches (programs_of s) name q → ⊥

-- and gives its terms
pub record Passes (s : Store) (terms : Terms) (limit q : ℕ) (p : Text) (row : List ℤ) (checked : ℕ) : Type 0 where
  pub enters : Enters s terms q p row
  pub checks : IsNewChecked (after s q p) row q limit (checked_at s q) checked

-- and breaks no caller
pub record Unbroken (s : Store) (terms : Terms) (limit q : ℕ) (p : Text) (row : List ℤ) (checked : ℕ) : Type 0 where
  pub passes : Passes s terms limit q p row checked
  pub unbroken : IsPublished s q → (x : ℤ) → Breaks s limit q p x → ⊥

-- and costs no more anywhere that is relied on
pub record NoDearer (s : Store) (terms : Terms) (limit q : ℕ) (p : Text) (row : List ℤ) (checked : ℕ) : Type 0 where
  pub unbroken : Unbroken s terms limit q p row checked
  pub no_dearer : IsPublished s q → (x : ℤ) → CostsMore s limit q p x → ⊥

-- The answer is the first that holds.
abbrev pub IsJudged : Store → Terms → ℕ → ℕ → Text → Answer → Type 0
IsJudged s terms limit q p Unlisted = terms q ≡ None
IsJudged s terms limit q p (Cycle through) =
    (row : List ℤ) × (terms q ≡ Some row) × FirstWith (λ name. Reaches (programs_of s) name q) (calls_of p) through
IsJudged s terms limit q p (WrongTerm index g) =
    (row : List ℤ) × Enters s terms q p row × FailsFirst (after s q p) row q limit index
    × (g ≡ got_of (outcome (after s q p) q (pos index) limit)) × (g ≡ got.OutOfSteps → index < max 8 (checked_at s q))
IsJudged s terms limit q p (BrokenDependant at caller index was now) =
    (row : List ℤ) × (checked : ℕ) × Passes s terms limit q p row checked × IsPublished s q × LeastWith (Breaks s limit q p) at
    × LeastCaller s q at caller index × Gives (outcome (programs_of s) q at limit) was × (now ≡ got_of (outcome (after s q p) q at limit))
IsJudged s terms limit q p (Costlier at was now) =
    (row : List ℤ) × (checked : ℕ) × Unbroken s terms limit q p row checked × IsPublished s q × LeastWith (CostsMore s limit q p) at
    × (was ≡ steps_of (outcome (programs_of s) q at limit)) × (now ≡ steps_of (outcome (after s q p) q at limit))
IsJudged s terms limit q p NoGain =
    (row : List ℤ) × (checked : ℕ) × NoDearer s terms limit q p row checked × IsPublished s q × Gainless s limit q p checked
IsJudged s terms limit q p (Accepted checked) =
    (row : List ℤ) × NoDearer s terms limit q p row checked × (IsPublished s q → Gainless s limit q p checked → ⊥)
