-- How one store comes from another by accepted entries, and what of them matters to a proposal.
use Rattle.std.specs.Prelude.{ℕ, ◌≤◌, ◌≡◌, ◌⊎◌, List, [], ◌∷◌, Contains}
use Rattle.loda_syntax.specs.Programs.{Text}
use Rattle.program_store.specs.Store.{Store, programs_of, put_in}
use Rattle.program_store.specs.Graph.{CallsReach}
use Rattle.call_graph.specs.Closure.{ReachesByCall}
use Rattle.seq_calls.specs.Demand.{ample}
use Rattle.judge.specs.declared.answer.Answer.TheVariants.{Accepted}
use Rattle.judge.specs.Passed.{Terms}
use Rattle.judge.specs.Sound.{Sound}
use Rattle.judge.specs.Judged.{IsJudged}

-- The newer store comes from the older one by entries with these names, in order, each accepted in the store that those before it give.
abbrev pub ComesBy : Terms → ℕ → Store → List ℕ → Store → Type 0
ComesBy terms limit older [] newer = newer ≡ older
ComesBy terms limit older (r ∷ rs) newer =
    (p : Text) × (checked : ℕ) × IsJudged older terms limit r p (Accepted checked) × ComesBy terms limit (put_in older r p checked) rs newer

-- A sound store comes from a sound one by accepted entries with these names; the limit of a run is a number of 64 bits.
pub record IsSuccessor (terms : Terms) (limit : ℕ) (older : Store) (names : List ℕ) (newer : Store) : Type 0 where
  pub fits : limit ≤ ample
  pub was_sound : Sound older terms limit
  pub comes : ComesBy terms limit older names newer
  pub sound : Sound newer terms limit

-- What the answer to a proposal rests on: the name; what the calls of the proposed program, and those of the present one, reach
-- in the older store; and the published names that reach the name by at least one call, in the older store or in the newer one.
abbrev pub IsInReach : Store → Store → ℕ → Text → ℕ → Type 0
IsInReach older newer q p r =
    (r ≡ q)
    ⊎ (CallsReach (programs_of older) p r
    ⊎ (ReachesByCall (programs_of older) q r
    ⊎ (ReachesByCall (programs_of older) r q
    ⊎ ReachesByCall (programs_of newer) r q)))

-- none of the names has the property
abbrev pub NoneHas : (ℕ → Type 0) → List ℕ → Type 0
NoneHas P names = (r : ℕ) → Contains names r → P r → ⊥
