-- What a replacement may not take from anybody.
use Rattle.std.specs.Prelude.{ℕ, ◌≤◌, ◌≡◌, ℤ, List, length}
use Rattle.std.specs.declared.option.Option.TheVariants.{Some}
use Rattle.program_store.specs.Store.{Store, programs_of, put_in, checked_at}
use Rattle.loda_syntax.specs.Programs.{Text}
use Rattle.seq_calls.specs.Demand.{ample, IsReliedOn}
use Rattle.seq_calls.specs.Values.{KeepsValue}
use Rattle.judge.specs.declared.answer.Answer.{Answer}
use Rattle.judge.specs.declared.answer.Answer.TheVariants.{Accepted}
use Rattle.judge.specs.Passed.{Terms}
use Rattle.judge.specs.Sound.{Sound}
use Rattle.judge.specs.Judged.{IsJudged}

-- From one store to the next no checked count falls, and each argument that is relied on keeps its value at no greater cost.
pub record LosesNothing (limit : ℕ) (old new : Store) : Type 0 where
  pub checked : (p : ℕ) → checked_at old p ≤ checked_at new p
  pub values : (p : ℕ) (x : ℤ) → IsReliedOn old p x → KeepsValue (programs_of old) (programs_of new) limit p x

-- each row has at least eight usable terms
abbrev pub HasEight : Terms → Type 0
HasEight terms = (q : ℕ) (row : List ℤ) → terms q ≡ Some row → 8 ≤ length row

-- The keep law: an accepted proposal breaks nobody. The next store is sound, and nothing is lost.
abbrev pub Keeps : Store → Terms → ℕ → ℕ → Text → ℕ → Type 0
Keeps s terms limit q p checked =
    limit ≤ ample → HasEight terms → Sound s terms limit → IsJudged s terms limit q p (Accepted checked)
    → Sound (put_in s q p checked) terms limit × LosesNothing limit s (put_in s q p checked)

-- what an answer keeps: where the proposal is accepted, the next store is sound, and nothing is lost
abbrev pub AnswerKeeps : Store → Terms → ℕ → ℕ → Text → Answer → Type 0
AnswerKeeps s terms limit q p answer = (checked : ℕ) → answer ≡ Accepted checked → Sound (put_in s q p checked) terms limit × LosesNothing limit s (put_in s q p checked)
