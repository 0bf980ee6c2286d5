-- A list that is cut at the first element that passes a test. Only clauses of private functions use what stands here.
use Rattle.std.specs.Prelude.{◌≡◌, ◌<◌, ℕ, List, [], ◌∷◌, length, Bool}
use Rattle.std.specs.List.{slice_split, before_first, after_first}

-- the test passes at the element between the front and the rest, and at none before it
pub record IsFirstPass (test : ℕ → Bool) (text front rest : List ℕ) : Type 0 where
  pub front_is : front ≡ before_first test text
  pub rest_is : rest ≡ after_first test text
  pub parts : slice_split test text ≡ front ∷ slice_split test rest
  pub shorter : length rest < length text

-- the test passes at no element
pub record IsUncut (test : ℕ → Bool) (text : List ℕ) : Type 0 where
  pub front_is : before_first test text ≡ text
  pub rest_is : after_first test text ≡ []
  pub parts : slice_split test text ≡ text ∷ []
