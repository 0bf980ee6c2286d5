-- Each direct call of a run with a value has a value in fewer steps, and the run used all those steps.
use Rattle.std.proofs.Common.{ℕ, zero, suc, ◌-◌, ◌<◌, ◌≤◌, ◌≡◌, refl, sym, ap, subst, ◌∙◌, arith, ℤ, inl, inr, Contains}
use Rattle.std.specs.Prelude.{◌⊎◌}
use Rattle.std.specs.declared.option.Option.{Option}
use Rattle.std.specs.declared.option.Option.TheVariants.{Some, None}
use Rattle.loda_syntax.specs.Programs.{Text, instrs}
use Rattle.loda_syntax.specs.Trees.{tree_of}
use Rattle.loda_semantics.specs.declared.kinds.Pair.{Pair}
use Rattle.loda_semantics.specs.declared.kinds.FaultKind.TheVariants.{Missing}
use Rattle.loda_semantics.specs.Exec.{Outcome, value, fault, out, Calls, none, call, join, Library, run_deep, run_name}
use Rattle.loda_semantics.proofs.Simulation.{AllGood, sim-run}
use Rattle.loda_semantics.proofs.Laws.{used_within, fewer_deep, run_text-is}
use Rattle.seq_calls.specs.Frames.{steps_of, steps_below, pair, direct}
use Rattle.seq_calls.specs.Runs.{HasRun}
use Rattle.seq_calls.proofs.Records.{AreAnswered, answered_name}
use Rattle.seq_calls.proofs.Own.{own_run}
use Rattle.seq_calls.proofs.Bounded.{with_steps, has_text, text_run}
use Rattle.seq_calls.proofs.Members.{nil_cases, cons_cases}

-- ---- each direct call used fewer than n steps

abbrev AreLess : ℕ → Calls → Type 0
AreLess n none = Unit {0}
AreLess n (call q x o inner rest) = (steps_of o < n) × AreLess n rest

join-less : (n : ℕ) (c d : Calls) → AreLess n c → AreLess n d → AreLess n (join c d)
join-less n none d h k = k
join-less n (call q x o inner rest) d h k = (h.0, join-less n rest d h.1 k)

any : ℕ → ℤ → Calls → Type 0
any q x c = Unit {0}

all-any : (c : Calls) → AllGood any c
unfolding any
all-any none = tt
all-any (call q x o inner rest) = (tt, all-any rest)

-- the steps left are the same, and at most n
Within : ℕ → ℕ → ℕ → Type 0
Within n a b = (b ≡ a) × (a ≤ n)

within-takes : (n k a b : ℕ) → Within n a b → k ≤ a → (k ≤ b) × Within n (a - k) (b - k)
unfolding Within
within-takes n k a b r le = let h0 = r.0 in let h1 = r.1 in (omega (arith, h0), (omega (arith, h0), omega (arith, h1)))

within-left : (n a b u : ℕ) → Within n (suc a) (suc b) → Within n (a - u) (b - u)
unfolding Within
within-left n a b u r = let h0 = r.0 in let h1 = r.1 in (omega (arith, h0), omega (arith, h1))

within-is : (n a b : ℕ) → Within n (suc a) (suc b) → (b ≡ a) × (a < n)
unfolding Within
within-is n a b r = let h0 = r.0 in let h1 = r.1 in (omega (arith, h0), omega (arith, h1))

begins : (n : ℕ) → Within n n n
unfolding Within
begins n = (refl, omega arith)

less_deep : (lib : Library) (d : ℕ) (p : Option Text) (x : ℤ) (n : ℕ) (v : ℤ) (used : ℕ) (c : Calls) → run_deep lib d p x n ≡ (value v used, c) → AreLess n c
less_deep lib d None x n v used c h = absurd (let z : fault Missing 0 ≡ value v used = ap (λ (p : Outcome × Calls). p.0) h in cc)
less_deep lib zero (Some p) x n v used c h = absurd (let z : out 0 ≡ value v used = ap (λ (p : Outcome × Calls). p.0) h in cc)
less_deep lib (suc d) (Some p) x n v used c h =
    let callee = λ (q : ℕ) (y : ℤ) (k : ℕ). run_deep lib d (lib q) y k in
    let r = sim-run callee callee (Within n) (λ c e. AreLess n c) (λ _. Unit {0}) any
    (λ a a' le low. tt)
    (λ k a b r le low. within-takes n k a b r le)
    tt
    (λ c1 c2 e1 e2 h1 h2. join-less n c1 e1 h1 h2)
    (λ q y a b w u inner r low g is.
    let bounds = within-is n a b r in
    let most : u ≤ a = used_within lib d (lib q) y a w u inner is in (
      u,
      inner,
      ap (run_deep lib d (lib q) y) bounds.0 ∙ is,
      within-left n a b u r,
      (let k = bounds.1 in omega (arith, k, most), tt),
    ))
    (tree_of (instrs p)) x n n v used c (begins n) h tt (all-any c) in
    r.6

-- each direct call of a run used fewer steps than the run
calls_less : (lib : Library) (q : ℕ) (x : ℤ) (n : ℕ) (v : ℤ) (used : ℕ) (c : Calls) → run_name lib q x n ≡ (value v used, c) → AreLess used c
calls_less lib q x n v used c h =
    let le : used ≤ n = used_within lib (suc n) (lib q) x n v used c h in
    less_deep lib (suc used) (lib q) x used v used c
    (fewer_deep lib (n - used) (suc n) (suc used) (lib q) x n used v used c (omega (arith, le)) (omega arith) (omega arith) h)

-- the run of a direct call
called_run : (lib : Library) (n m : ℕ) (c : Calls) → AreAnswered lib n c → AreLess m c → (to : Pair) → Contains (direct c) to → (ran : HasRun lib n to.name to.arg) × (ran.used < m)
called_run lib n m none h l to at = absurd (nil_cases to at)
called_run lib n m (call q x o inner rest) h l to at = by_part (called_run lib n m rest h.2 l.1 to) (cons_cases (pair q x) (direct rest) to at)
  where
    by_part : (Contains (direct rest) to → (ran : HasRun lib n to.name to.arg) × (ran.used < m)) → (pair q x ≡ to) ⊎ Contains (direct rest) to → (ran : HasRun lib n to.name to.arg) × (ran.used < m)
    by_part later (inl e) =
        subst (λ (t : Pair). (ran : HasRun lib n t.name t.arg) × (ran.used < m)) e
        (record { value_of = h.0.0; used = h.0.1; calls = inner; is = h.0.3 }, subst (λ (z : Outcome). steps_of z < m) h.0.2 l.0)
    by_part later (inr k) = later k

-- a run used the steps that its callees used
below_used : (lib : Library) (q : ℕ) (x v : ℤ) (n used : ℕ) (c : Calls) → run_name lib q x n ≡ (value v used, c) → steps_below c ≤ used
below_used lib q x v n used c h =
    let text = has_text lib q x v n used c h in
    let r = own_run (run_name lib) (run_name lib) any
    (λ r y a b w u inner le good is.
    let within : u ≤ a = used_within lib (suc a) (lib r) y a w u inner is in
    (u, inner, with_steps lib r y w a b u inner is (omega (arith, within, le)), omega arith, within))
    (tree_of (instrs text.0)) x n v used c (sym (run_text-is lib text.0 x n) ∙ sym (text_run lib q text.0 x n text.1) ∙ h) (all-any c) in
    r.6

pub calls_have_runs : (lib : Library) (q : ℕ) (x v : ℤ) (n used : ℕ) (c : Calls) → run_name lib q x n ≡ (value v used, c)
    → (steps_below c ≤ used) × ((to : Pair) → Contains (direct c) to → (ran : HasRun lib n to.name to.arg) × (ran.used < used))
calls_have_runs lib q x v n used c h =
    (below_used lib q x v n used c h, called_run lib n used c (answered_name lib n q x v used c h) (calls_less lib q x n v used c h))
