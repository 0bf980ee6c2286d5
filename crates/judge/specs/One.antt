-- Each proposal has one answer, and a store that isn't sound has one reason.
use Rattle.std.specs.Prelude.{ℕ, ◌≡◌}
use Rattle.loda_syntax.specs.Programs.{Text}
use Rattle.program_store.specs.Store.{Store}
use Rattle.judge.specs.declared.answer.Answer.{Answer}
use Rattle.judge.specs.declared.answer.Unsound.{Unsound}
use Rattle.judge.specs.Passed.{Terms}
use Rattle.judge.specs.Sound.{Sound, IsUnsound}
use Rattle.judge.specs.Judged.{IsJudged}

-- two answers to one proposal in one store are the same
abbrev pub HasOneAnswer : Store → Terms → ℕ → ℕ → Text → Type 0
HasOneAnswer s terms limit q p = (a b : Answer) → IsJudged s terms limit q p a → IsJudged s terms limit q p b → a ≡ b

-- a store is sound, or has one reason why not, and never both
pub record HasOneReason (s : Store) (terms : Terms) (limit : ℕ) : Type 0 where
  pub one : (u w : Unsound) → IsUnsound s terms limit u → IsUnsound s terms limit w → u ≡ w
  pub never_both : (u : Unsound) → IsUnsound s terms limit u → Sound s terms limit → ⊥
