-- The runs at the first arguments, and one more.
use Rattle.std.proofs.Common.{ℕ, ◌+◌, ◌*◌, ◌<◌, ◌≤◌, ◌≡◌, refl, sym, ap, subst, ◌∙◌, arith, ℤ, pos, inl, inr, List, [], ◌∷◌, ◌++◌, length, get_or, length-append}
use Rattle.std.specs.Prelude.{◌⊎◌, slice_get}
use Rattle.std.specs.declared.option.Option.TheVariants.{Some}
use Rattle.std.proofs.lemmas.List.{get_or_append_left, get_or_push}
use Rattle.std.proofs.lemmas.Option.{slice_get_within, get_or_from_slice_get, slice_get-get_or}
use Rattle.seq_calls.specs.Values.{outcome}
use Rattle.loda_semantics.specs.Exec.{Outcome, value, Library, run_name}
use Rattle.seq_calls.specs.declared.outcomes.Outcome.{Outcome as Told}
use Rattle.seq_calls.specs.declared.outcomes.Outcome.TheVariants as told_as
use Rattle.seq_calls.specs.declared.outcomes.NodeRun.{NodeRun}
use Rattle.seq_calls.specs.Frames.{told, nodes_of, steps_of}
use Rattle.judge.specs.declared.answer.Got.{Got}
use Rattle.judge.specs.declared.answer.Got.TheVariants as got
use Rattle.judge.specs.Passed.{PassesBelow}
use Rattle.judge.specs.Misses.{got_told, IsFirstMiss}
use Rattle.judge.proofs.Misses.{term_read, passes_next, misses_here}
use Rattle.std.specs.declared.option.Option.TheVariants as option
use Rattle.evidence.specs.Runs.{AreRunsAt, AreCosts, AreFirst, IsFirst}
use Rattle.evidence.specs.Trials.{AreSpentOnTerms}
use Rattle.seq_calls.proofs.Values.{told_value}
use Rattle.evidence.proofs.RunsAt.{one_more_at, same_at}
use Rattle.evidence.proofs.Least.{first_more, first_less}

order_of : (i k : ℕ) → i < k + 1 → (i < k) ⊎ (i ≡ k)
order_of i k lt = grind arith

pub costs_more : (lib : Library) (q limit : ℕ) (costs : List ℕ) (used : ℕ) → used ≡ steps_of (outcome lib q (pos (length costs)) limit) → AreCosts lib q limit costs → AreCosts lib q limit (costs ++ used ∷ [])
costs_more lib q limit costs used is h = λ i c e.
    let there = get_or_from_slice_get (costs ++ used ∷ []) i c c e in
    let within = slice_get_within (costs ++ used ∷ []) i c e in
    let size = length-append costs (used ∷ []) in
    by_place i c there (order_of i (length costs) (omega (arith, within, size)))
  where
    by_place : (i c : ℕ) → get_or (costs ++ used ∷ []) i c ≡ c → (i < length costs) ⊎ (i ≡ length costs) → c ≡ steps_of (outcome lib q (pos i) limit)
    by_place i c there (inl lt) = h i c (slice_get-get_or costs i c lt ∙ ap (λ (n : ℕ). Some n) (sym (get_or_append_left costs (used ∷ []) c i lt) ∙ there))
    by_place i c there (inr e) = sym there ∙ get_or_push costs used c i (sym e) ∙ is ∙ ap (λ (n : ℕ). steps_of (outcome lib q (pos n) limit)) (sym e)

module _ (lib : Library) (q limit k : ℕ) (costs : List ℕ) (runs : List NodeRun) (t x : ℤ) (o : Told) (count : length costs ≡ k) (arg : x ≡ pos k) (ran : o ≡ told (outcome lib q x limit)) where
  pub first_runs_more : (used : ℕ) (costs2 : List ℕ) (runs2 nodes : List NodeRun) → o ≡ told_as.Value t used → costs2 ≡ costs ++ used ∷ [] → nodes ≡ nodes_of q x (run_name lib q x limit) → runs2 ≡ runs ++ nodes
      → AreFirst lib q limit costs runs → AreFirst lib q limit costs2 runs2
  first_runs_more used costs2 runs2 nodes is pushed are joined h = record { cost = cost; frames = frames }
    where
      here : x ≡ pos (length costs)
      here = arg ∙ ap pos (sym count)

      spent : used ≡ steps_of (outcome lib q (pos (length costs)) limit)
      spent = sym (ap steps_of (told_value (outcome lib q x limit) t used (sym ran ∙ is))) ∙ ap (λ (z : ℤ). steps_of (outcome lib q z limit)) here

      cost : AreCosts lib q limit costs2
      cost = subst (λ (cs : List ℕ). AreCosts lib q limit cs) (sym pushed) (costs_more lib q limit costs used spent h.cost)

      size : length costs2 ≡ length costs + 1
      size = ap length pushed ∙ length-append costs (used ∷ [])

      to : (y : ℤ) → IsFirst (length costs) y ⊎ (y ≡ x) → IsFirst (length costs + 1) y
      to y (inl a) = first_less (length costs) y (inl a)
      to y (inr e) = first_less (length costs) y (inr (e ∙ here))

      from : (y : ℤ) → IsFirst (length costs + 1) y → IsFirst (length costs) y ⊎ (y ≡ x)
      from y a = turn (first_more (length costs) y a)
        where
          turn : IsFirst (length costs) y ⊎ (y ≡ pos (length costs)) → IsFirst (length costs) y ⊎ (y ≡ x)
          turn (inl b) = inl b
          turn (inr e) = inr (e ∙ sym here)

      frames : AreRunsAt lib q limit (IsFirst (length costs2)) runs2
      frames =
          subst (λ (n : ℕ). AreRunsAt lib q limit (IsFirst n) runs2) (sym size)
          (same_at lib q limit (λ y. IsFirst (length costs) y ⊎ (y ≡ x)) (IsFirst (length costs + 1)) runs2 to from
          (one_more_at lib q limit (IsFirst (length costs)) x runs runs2 (joined ∙ ap (λ (l : List NodeRun). runs ++ l) are) h.frames))

  module _ (row : List ℤ) (i : ℕ) (same : k ≡ i) (lt : i < length row) (read : t ≡ get_or row i t) where
    pub given_more : (used : ℕ) → o ≡ told_as.Value t used → PassesBelow lib row q limit k → PassesBelow lib row q limit (k + 1)
    given_more used is h = passes_next lib row q limit k t x o (term_read row k i t same lt read) arg ran (ap got_told is) h

    pub missed_here : (g : Got) → g ≡ got_told o → (got_told o ≡ got.Value t → ⊥) → PassesBelow lib row q limit k → IsFirstMiss lib row q limit (length costs) (option.Some g)
    missed_here g is not h =
        subst (λ (n : ℕ). IsFirstMiss lib row q limit n (option.Some g)) (sym count)
        (misses_here lib row q limit k t x o (term_read row k i t same lt read) arg ran g is (λ e. not (sym is ∙ e)) h)

pub spent_more : (before mid now k limit : ℕ) → mid ≤ before + k * limit → now ≤ mid + limit → now ≤ before + (k + 1) * limit
spent_more before mid now k limit a b = omega arith

pub spent_on : (lib : Library) (row : List ℤ) (q limit before mid now k : ℕ) → k ≤ length row → PassesBelow lib row q limit k → mid ≤ before + k * limit → now ≤ mid + limit → AreSpentOnTerms lib row q limit before now
spent_on lib row q limit before mid now k within gives a b = record { given = k; within = within; gives = gives; bound = spent_more before mid now k limit a b }
