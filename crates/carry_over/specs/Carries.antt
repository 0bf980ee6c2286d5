-- The carry law: what no accepted entry in between touches is true of the newer store.
use Rattle.std.specs.Prelude.{ℕ, ◌≡◌, ◌↔◌, ℤ, List}
use Rattle.loda_syntax.specs.Programs.{Text}
use Rattle.loda_semantics.specs.Exec.{run_name}
use Rattle.program_store.specs.Store.{Store, published_at, programs_of, after}
use Rattle.seq_calls.specs.Demand.{Demands}
use Rattle.judge.specs.declared.answer.Answer.{Answer}
use Rattle.judge.specs.Passed.{Terms}
use Rattle.judge.specs.Judged.{IsJudged}
use Rattle.carry_over.specs.Stores.{IsSuccessor, IsInReach, NoneHas}

-- What a proposal meets in both stores alike: what is published at its name, each run of it and of the present program, with
-- all that these call, and each checked run that demands an argument of the name.
pub record MeetsTheSame (older newer : Store) (q : ℕ) (p : Text) : Type 0 where
  pub published : published_at newer q ≡ published_at older q
  pub present_runs : (x : ℤ) (n : ℕ) → run_name (programs_of newer) q x n ≡ run_name (programs_of older) q x n
  pub proposed_runs : (x : ℤ) (n : ℕ) → run_name (after newer q p) q x n ≡ run_name (after older q p) q x n
  pub demands : (caller index : ℕ) (x : ℤ) → Demands newer caller index q x ↔ Demands older caller index q x

-- Where no entry in between has a name in the reach, the proposal meets the same in both stores, and has the same answer.
abbrev pub Carries : Store → Terms → ℕ → List ℕ → Store → ℕ → Text → Type 0
Carries older terms limit names newer q p =
    IsSuccessor terms limit older names newer → NoneHas (IsInReach older newer q p) names
    → MeetsTheSame older newer q p × ((a : Answer) → IsJudged older terms limit q p a → IsJudged newer terms limit q p a)
