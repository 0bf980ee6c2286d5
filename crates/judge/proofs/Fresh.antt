-- The answer to a proposal for a name that isn't published, and what acceptance keeps.
use Rattle.std.proofs.Common.{ℕ, ◌≤◌, ◌≡◌, sym, subst, ◌∙◌, arith, ℤ, List}
use Rattle.std.specs.Prelude.{◌<◌, ◌^◌, Contains, IfSome, IfNone}
use Rattle.std.specs.declared.option.Option.{Option}
use Rattle.std.specs.declared.option.Option.TheVariants.{Some, None}
use Rattle.loda_syntax.specs.Programs.{Text}
use Rattle.loda_semantics.specs.Exec.{Library}
use Rattle.oeis_terms.specs.Table.{Table, IsTable, row_of}
use Rattle.program_store.specs.Store.{Store, published_at, programs_of, with_program, checked_at, after, IsPublished}
use Rattle.program_store.specs.Graph.{calls_of, Reaches, FirstWith}
use Rattle.seq_calls.specs.Demand.{ample}
use Rattle.judge.specs.declared.answer.Answer.{Answer}
use Rattle.judge.specs.declared.answer.Answer.TheVariants.{Accepted, Cycle, WrongTerm}
use Rattle.judge.specs.declared.answer.Got.{Got}
use Rattle.judge.specs.declared.passing.NewCount.{NewCount}
use Rattle.judge.specs.declared.passing.NewCount.TheVariants.{Checked, Wrong}
use Rattle.judge.specs.Passed.{Terms}
use Rattle.judge.specs.Misses.{IsNewCount}
use Rattle.judge.specs.Sound.{Sound}
use Rattle.judge.specs.Judged.{Enters, Passes, IsJudged}
use Rattle.judge.specs.Kept.{AnswerKeeps}
use Rattle.judge.proofs.Keep.{keep}
use Rattle.judge.proofs.Rows.{eight_terms}

module _ (s : Store) (terms : Terms) (limit q : ℕ) (p : Text) (row : List ℤ) (listed : terms q ≡ Some row) (lib : Library) (same : lib ≡ programs_of s) where
  pub judged_cycle : (o : Option ℕ) (n : ℕ) → o ≡ Some n → IfSome o (FirstWith (λ name. Reaches lib name q) (calls_of p)) → IsJudged s terms limit q p (Cycle n)
  judged_cycle o n e h =
      let there : FirstWith (λ name. Reaches lib name q) (calls_of p) n = subst (λ (z : Option ℕ). IfSome z (FirstWith (λ name. Reaches lib name q) (calls_of p))) e h in
      (row, listed, subst (λ (l : Library). FirstWith (λ name. Reaches l name q) (calls_of p) n) same there)

  pub enters : (o : Option ℕ) → o ≡ None → IfNone o ((name : ℕ) → Contains (calls_of p) name → Reaches lib name q → ⊥) → Enters s terms q p row
  enters o e h =
      let there : (name : ℕ) → Contains (calls_of p) name → Reaches lib name q → ⊥ = subst (λ (z : Option ℕ). IfNone z ((name : ℕ) → Contains (calls_of p) name → Reaches lib name q → ⊥)) e h in
      record { listed = listed; acyclic = subst (λ (l : Library). (name : ℕ) → Contains (calls_of p) name → Reaches l name q → ⊥) same there }

  new_count_is : (old : ℕ) (n m : NewCount) → old ≡ checked_at s q → n ≡ m → IsNewCount (with_program lib q p) row q limit old n → IsNewCount (after s q p) row q limit (checked_at s q) m
  new_count_is old n m is e h =
      subst (λ (l : Library). IsNewCount (with_program l q p) row q limit (checked_at s q) m) same
      (subst (λ (k : ℕ). IsNewCount (with_program lib q p) row q limit k m) is
      (subst (λ (z : NewCount). IsNewCount (with_program lib q p) row q limit old z) e h))

  pub judged_wrong : Enters s terms q p row → (old : ℕ) (n : NewCount) (index : ℕ) (g : Got) → old ≡ checked_at s q → n ≡ Wrong index g → IsNewCount (with_program lib q p) row q limit old n → IsJudged s terms limit q p (WrongTerm index g)
  judged_wrong enters old n index g is e h = let wrong = new_count_is old n (Wrong index g) is e h in (row, enters, wrong.0, wrong.1, wrong.2)

  pub passes : Enters s terms q p row → (old : ℕ) (n : NewCount) (checked : ℕ) → old ≡ checked_at s q → n ≡ Checked checked → IsNewCount (with_program lib q p) row q limit old n → Passes s terms limit q p row checked
  passes enters old n checked is e h = record { enters = enters; checks = new_count_is old n (Checked checked) is e h }

pub unpublished : (s : Store) (q : ℕ) → published_at s q ≡ None → IsPublished s q → ⊥
unpublished s q e h = let f : None ≡ Some h.0 = sym e ∙ h.1 in cc

-- a program that passes is accepted for a name that isn't published
pub judged_new : (s : Store) (terms : Terms) (limit q : ℕ) (p : Text) (row : List ℤ) (checked : ℕ) → Passes s terms limit q p row checked → published_at s q ≡ None → IsJudged s terms limit q p (Accepted checked)
judged_new s terms limit q p row checked h new = (
  row,
  record {
    unbroken = record { passes = h; unbroken = λ there x b. unpublished s q new there };
    no_dearer = λ there x b. unpublished s q new there;
  },
  λ there gainless. unpublished s q new there,
)

pub within_ample : (limit : ℕ) → limit < 2 ^ 64 → limit ≤ ample
unfolding ample
within_ample limit h = omega arith

pub kept : (s : Store) (table : Table) (limit q : ℕ) (p : Text) (answer : Answer) → limit < 2 ^ 64 → IsTable table → Sound s (row_of table) limit → IsJudged s (row_of table) limit q p answer → AnswerKeeps s (row_of table) limit q p answer
kept s table limit q p answer fits good sound judged = λ checked e.
    keep s (row_of table) limit q p checked (within_ample limit fits) (eight_terms table good) sound (subst (λ (a : Answer). IsJudged s (row_of table) limit q p a) e judged)
