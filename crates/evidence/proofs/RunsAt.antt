-- Finished runs at some arguments, and at one more.
use Rattle.std.proofs.Common.{ℕ, suc, ◌+◌, ◌-◌, ◌<◌, ◌≤◌, ◌≡◌, refl, sym, ap, subst, ◌∙◌, arith, ℤ, pos, inl, inr, List, [], ◌∷◌, ◌++◌, length, Contains}
use Rattle.std.specs.Prelude.{◌⊎◌, ◌↔◌}
use Rattle.std.proofs.lemmas.List.Elements.{Contains-append_left, Contains-append_right, Contains-append_cases}
use Rattle.seq_calls.specs.Values.{outcome}
use Rattle.loda_semantics.specs.Exec.{Outcome, value, Calls, Library, run_name}
use Rattle.loda_semantics.proofs.Laws.{more_deep}
use Rattle.seq_calls.specs.declared.outcomes.NodeRun.{NodeRun}
use Rattle.seq_calls.specs.Frames.{nodes_of}
use Rattle.evidence.specs.Runs.{AreRunsAt, IsFirst}

pub none_at : (lib : Library) (q limit : ℕ) → AreRunsAt lib q limit (IsFirst 0) []
none_at lib q limit = λ node. (λ c. absurd (let k = c.1 in omega (arith, k)), λ h. absurd (let k = h.1.1 in omega (arith, k)))

pub same_at : (lib : Library) (q limit : ℕ) (At Other : ℤ → Type 0) (runs : List NodeRun) → ((x : ℤ) → At x → Other x) → ((x : ℤ) → Other x → At x)
    → AreRunsAt lib q limit At runs → AreRunsAt lib q limit Other runs
same_at lib q limit At Other runs to from h =
    λ node. (λ c. let k = (h node).0 c in (k.0, to k.0 k.1, k.2), λ k. (h node).1 (k.0, from k.0 k.1, k.2))

pub one_more_at : (lib : Library) (q limit : ℕ) (At : ℤ → Type 0) (x : ℤ) (runs more : List NodeRun) → more ≡ runs ++ nodes_of q x (run_name lib q x limit)
    → AreRunsAt lib q limit At runs → AreRunsAt lib q limit (λ y. At y ⊎ (y ≡ x)) more
one_more_at lib q limit At x runs more is h = λ node. (
  λ c. there node (Contains-append_cases runs (nodes_of q x (run_name lib q x limit)) node (subst (λ (l : List NodeRun). Contains l node) is c)),
  λ k. subst (λ (l : List NodeRun). Contains l node) (sym is) (back node k.0 k.1 k.2),
)
  where
    there : (node : NodeRun) → Contains runs node ⊎ Contains (nodes_of q x (run_name lib q x limit)) node → (y : ℤ) × (At y ⊎ (y ≡ x)) × Contains (nodes_of q y (run_name lib q y limit)) node
    there node (inl c) = let k = (h node).0 c in (k.0, inl k.1, k.2)
    there node (inr c) = (x, inr refl, c)

    back : (node : NodeRun) (y : ℤ) → At y ⊎ (y ≡ x) → Contains (nodes_of q y (run_name lib q y limit)) node → Contains (runs ++ nodes_of q x (run_name lib q x limit)) node
    back node y (inl a) c = Contains-append_left runs (nodes_of q x (run_name lib q x limit)) node ((h node).1 (y, a, c))
    back node y (inr e) c = Contains-append_right runs (nodes_of q x (run_name lib q x limit)) node (subst (λ (z : ℤ). Contains (nodes_of q z (run_name lib q z limit)) node) e c)

-- ---- with more steps

-- what has a value is the same run with more steps
more_nodes : (lib : Library) (n m q : ℕ) (x v : ℤ) (used : ℕ) → n ≤ m → outcome lib q x n ≡ value v used → run_name lib q x m ≡ run_name lib q x n
more_nodes lib n m q x v used le e =
    let full : run_name lib q x n ≡ (value v used, (run_name lib q x n).1) = ap (λ (z : Outcome). (z, (run_name lib q x n).1)) e in
    let more : run_name lib q x m ≡ (value v used, (run_name lib q x n).1) =
    more_deep lib (m - n) (suc n) (suc m) (lib q) x n m v used (run_name lib q x n).1 (omega (arith, le)) (omega arith) full in
    more ∙ sym full

pub more_at : (lib : Library) (n m q : ℕ) (At : ℤ → Type 0) (runs : List NodeRun) → n ≤ m → ((x : ℤ) → At x → (v : ℤ) × (used : ℕ) × (outcome lib q x n ≡ value v used))
    → AreRunsAt lib q n At runs → AreRunsAt lib q m At runs
more_at lib n m q At runs le values h = λ node. (
  λ c. let k = (h node).0 c in (k.0, k.1, subst (λ (l : List NodeRun). Contains l node) (sym (same k.0 k.1)) k.2),
  λ k. (h node).1 (k.0, k.1, subst (λ (l : List NodeRun). Contains l node) (same k.0 k.1) k.2),
)
  where
    same : (x : ℤ) → At x → nodes_of q x (run_name lib q x m) ≡ nodes_of q x (run_name lib q x n)
    same x a = let v = values x a in ap (nodes_of q x) (more_nodes lib n m q x v.0 v.1 le v.2)
