-- Runs with the old program and with the new one, side by side.
use Rattle.std.proofs.Common.{ℕ, ◌+◌, ◌<◌, ◌≡◌, sym, ap, subst, ◌∙◌, arith, ℤ, pos, inl, inr, List, Bool}
use Rattle.std.specs.Prelude.{◌⊎◌, ◌↔◌, ◌≤◌, length, IfOk, IsTrue}
use Rattle.std.specs.declared.result.Result.{Result}
use Rattle.std.specs.declared.result.Result.TheVariants.{Ok, Err}
use Rattle.loda_syntax.specs.Programs.{Text, instrs}
use Rattle.loda_semantics.specs.Exec.{Library, run_name}
use Rattle.program_store.specs.Store.{Store, programs_of, with_program}
use Rattle.seq_calls.specs.declared.outcomes.Outcome.{Outcome as Told}
use Rattle.seq_calls.specs.declared.outcomes.NodeRun.{NodeRun}
use Rattle.seq_calls.specs.Frames.{told, nodes_of}
use Rattle.seq_calls.specs.Values.{outcome}
use Rattle.judge.specs.declared.comparing.BothRuns.{BothRuns}
use Rattle.judge.specs.Changes.{runs_at, SameSteps}
use Rattle.judge.specs.Replaced.{TakesSameSteps, BringsNothing}
use Rattle.program_store.specs.declared.published.Published.{Published}

sides : Told → Told → BothRuns
sides a b = record { with_old = a; with_new = b }

pub runs_are : (s : Store) (lib : Library) → lib ≡ programs_of s → (limit q : ℕ) (p : Text) (x : ℤ) (a b : Told) → a ≡ told (outcome lib q x limit) → b ≡ told (outcome (with_program lib q p) q x limit)
    → record { with_old = a; with_new = b } ≡ runs_at s limit q p x
unfolding sides
runs_are s lib same limit q p x a b old new =
    ap (λ (o : Told). sides o b) (old ∙ ap (λ (l : Library). told (outcome l q x limit)) same)
    ∙ ap (λ (o : Told). sides (told (outcome (programs_of s) q x limit)) o) (new ∙ ap (λ (l : Library). told (outcome (with_program l q p) q x limit)) same)

-- the frames of a checked run, whoever ran it
pub nodes_are : (s : Store) (lib : Library) → lib ≡ programs_of s → (limit name index : ℕ) (x : ℤ) (all nodes : List NodeRun) → x ≡ pos index → nodes ≡ all → all ≡ nodes_of name x (run_name lib name x limit)
    → nodes ≡ nodes_of name (pos index) (run_name (programs_of s) name (pos index) limit)
nodes_are s lib same limit name index x all nodes is listed e =
    listed ∙ e ∙ ap (λ (z : ℤ). nodes_of name z (run_name lib name z limit)) is ∙ ap (λ (l : Library). nodes_of name (pos index) (run_name l name (pos index) limit)) same

pub if_ok : {A E : Type 0} (r : Result A E) (P Q : A → Type 0) → ((a : A) → P a → Q a) → IfOk r P → IfOk r Q
if_ok (Ok c) P Q to h = to c h
if_ok (Err e) P Q to h = tt

-- ---- the same steps at each argument

below_or : (i k : ℕ) → i < k + 1 → (i < k) ⊎ (i ≡ k)
below_or i k lt = grind arith

module _ (s : Store) (limit q : ℕ) (p : Text) (i : ℕ) (x : ℤ) (runs : BothRuns) (at : x ≡ pos i) (is : runs ≡ runs_at s limit q p x) where
  runs_here : runs ≡ runs_at s limit q p (pos i)
  runs_here = is ∙ ap (λ (z : ℤ). runs_at s limit q p z) at

  pub steps_more : SameSteps runs → TakesSameSteps s limit q p i → TakesSameSteps s limit q p (i + 1)
  steps_more same h = λ j lt. by_place j (below_or j i lt)
    where
      by_place : (j : ℕ) → (j < i) ⊎ (j ≡ i) → SameSteps (runs_at s limit q p (pos j))
      by_place j (inl less) = h j less
      by_place j (inr e) = subst (λ (n : ℕ). SameSteps (runs_at s limit q p (pos n))) (sym e) (subst SameSteps runs_here same)

  pub steps_differ : (count : ℕ) → i < count → (SameSteps runs → ⊥) → TakesSameSteps s limit q p count → ⊥
  steps_differ count lt not h = not (subst SameSteps (sym runs_here) (h i lt))

pub nothing_if : (s : Store) (limit q : ℕ) (p : Text) (e : Published) (checked : ℕ) → checked ≡ e.checked → length (instrs e.program) ≤ length (instrs p)
    → (b : Bool) → IsTrue b ↔ TakesSameSteps s limit q p checked → IsTrue b ↔ BringsNothing s limit q p e checked
nothing_if s limit q p e checked count size b h = (λ t. record { count = count; size = size; steps = h.0 t }, λ n. h.1 n.steps)
