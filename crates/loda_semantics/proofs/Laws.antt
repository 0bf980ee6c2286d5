-- The laws of runs: how deep a run may go doesn't matter, and more steps, or fewer that suffice, give the same run.
use Rattle.std.proofs.Common.{ℕ, zero, suc, ◌+◌, ◌-◌, ◌<◌, ◌≤◌, ◌≡◌, refl, ap, ◌∙◌, arith, ℤ, Bool, true, false, nat_lt}
use Rattle.std.specs.declared.option.Option.{Option}
use Rattle.std.specs.declared.option.Option.TheVariants.{Some, None}
use Rattle.loda_syntax.specs.Programs.{Text, instrs}
use Rattle.loda_syntax.specs.Trees.{Tree, tree_of}
use Rattle.loda_semantics.specs.declared.kinds.FaultKind.TheVariants.{Missing}
use Rattle.loda_semantics.specs.Memory.{Memory, memory_with}
use Rattle.loda_semantics.specs.Exec.{Outcome, value, fault, out, Calls, none, call, join, Ending, done, failed, spent, exec, outcome_of, Library, run_deep, run_text, run_name}
use Rattle.loda_semantics.proofs.Simulation.{AllGood, sim-run, sim-tree}
use Rattle.loda_semantics.proofs.Same.{same-exec}

-- any depth above the steps gives the same run
pub same-deep : (lib : Library) (d1 d2 : ℕ) (p : Option Text) (x : ℤ) (n : ℕ) → n < d1 → n < d2 → run_deep lib d1 p x n ≡ run_deep lib d2 p x n
same-deep lib d1 d2 None x n h1 h2 = refl
same-deep lib zero d2 (Some p) x n h1 h2 = absurd (omega arith)
same-deep lib (suc d1) zero (Some p) x n h1 h2 = absurd (omega arith)
same-deep lib (suc d1) (suc d2) (Some p) x n h1 h2 =
    ap (outcome_of n) (same-exec (λ q y k. run_deep lib d1 (lib q) y k) (λ q y k. run_deep lib d2 (lib q) y k) n
    (λ q y k lt. same-deep lib d1 d2 (lib q) y k (omega arith) (omega arith)) (tree_of (instrs p)) (memory_with x) n (omega arith))

-- The recursion of the language: a run of a text calls the runs of the names.
pub run_text-is : (lib : Library) (p : Text) (x : ℤ) (n : ℕ) → run_text lib p x n ≡ outcome_of n (exec (run_name lib) (tree_of (instrs p)) (memory_with x) n)
run_text-is lib p x n =
    ap (outcome_of n) (same-exec (λ q y k. run_deep lib n (lib q) y k) (run_name lib) n
    (λ q y k lt. same-deep lib n (suc k) (lib q) y k lt (omega arith)) (tree_of (instrs p)) (memory_with x) n (omega arith))

-- any call is good
abbrev any : ℕ → ℤ → Calls → Type 0
any q x c = Unit {0}

all-any : (c : Calls) → AllGood any c
all-any none = tt
all-any (call q x o inner rest) = (tt, all-any rest)

-- b is a and e more, and at most the depth
abbrev More : ℕ → ℕ → ℕ → ℕ → Type 0
More e depth a b = (b ≡ a + e) × (b ≤ depth)

more-takes : (e depth k a b : ℕ) → More e depth a b → k ≤ a → (k ≤ b) × More e depth (a - k) (b - k)
more-takes e depth k a b r le = let h0 = r.0 in let h1 = r.1 in (omega (arith, h0), (omega (arith, h0), omega (arith, h1)))

more-left : (e depth a b u : ℕ) → More e depth (suc a) (suc b) → u ≤ a → More e depth (a - u) (b - u)
more-left e depth a b u r le = let h0 = r.0 in let h1 = r.1 in (omega (arith, h0), omega (arith, h1))

used-outcome : (r : Ending) (n : ℕ) (v : ℤ) (u : ℕ) (c : Calls) → outcome_of n r ≡ (value v u, c) → u ≤ n
used-outcome (done m a c') n v u c h = let z : value (m 0) (n - a) ≡ value v u = ap (λ (p : Outcome × Calls). p.0) h in let w : n - a ≡ u = cc in omega arith
used-outcome (failed k a c') n v u c h = absurd (let z : fault k (n - a) ≡ value v u = ap (λ (p : Outcome × Calls). p.0) h in cc)
used-outcome (spent a c') n v u c h = absurd (let z : out (n - a) ≡ value v u = ap (λ (p : Outcome × Calls). p.0) h in cc)

-- a value uses no more steps than there are
pub used_within : (lib : Library) (depth : ℕ) (p : Option Text) (x : ℤ) (n : ℕ) (v : ℤ) (u : ℕ) (c : Calls) → run_deep lib depth p x n ≡ (value v u, c) → u ≤ n
used_within lib depth None x n v u c h = absurd (let z : fault Missing 0 ≡ value v u = ap (λ (p : Outcome × Calls). p.0) h in cc)
used_within lib zero (Some p) x n v u c h = absurd (let z : out 0 ≡ value v u = ap (λ (p : Outcome × Calls). p.0) h in cc)
used_within lib (suc depth) (Some p) x n v u c h = used-outcome (exec (λ q y k. run_deep lib depth (lib q) y k) (tree_of (instrs p)) (memory_with x) n) n v u c h

-- The law of more steps: a run that has a value has the same value, steps and calls with e more.
pub more_deep : (lib : Library) (e d1 d2 : ℕ) (p : Option Text) (x : ℤ) (a b : ℕ) (v : ℤ) (used : ℕ) (c : Calls)
    → b ≡ a + e → b < d2 → run_deep lib d1 p x a ≡ (value v used, c) → run_deep lib d2 p x b ≡ (value v used, c)
more_deep lib e d1 d2 None x a b v used c eq lt h = absurd (let z : fault Missing 0 ≡ value v used = ap (λ (p : Outcome × Calls). p.0) h in cc)
more_deep lib e zero d2 (Some p) x a b v used c eq lt h = absurd (let z : out 0 ≡ value v used = ap (λ (p : Outcome × Calls). p.0) h in cc)
more_deep lib e (suc d1) zero (Some p) x a b v used c eq lt h = absurd (omega arith)
more_deep lib e (suc d1) (suc d2) (Some p) x a b v used c eq lt h =
    let r = sim-run (λ q y k. run_deep lib d1 (lib q) y k) (λ q y k. run_deep lib d2 (lib q) y k) (More e d2) (λ c d. d ≡ c) (λ _. Unit {0}) any
    (λ a a' le low. tt)
    (λ k a b r le low. more-takes e d2 k a b r le)
    refl
    (λ c1 c2 e1 e2 h1 h2. ap (λ z. join z e2) h1 ∙ ap (join c1) h2)
    (λ q y a b w u inner r low g is.
    let ab : b ≡ a + e = omega (arith, r.0) in
    let in_depth : b < d2 = omega (arith, r.1) in
    let ran = more_deep lib e d1 d2 (lib q) y a b w u inner ab in_depth is in
    (u, inner, ran, more-left e d2 a b u r (used_within lib d1 (lib q) y a w u inner is), refl))
    (tree_of (instrs p)) x a b v used c (eq, omega arith) h tt (all-any c) in
    let same : r.0 ≡ used = omega (arith, r.3.0, r.4, r.5) in
    r.2 ∙ ap (λ z. (value v z, r.1)) same ∙ ap (λ z. (value v used, z)) r.6

pub more_steps : (lib : Library) (p : Text) (x : ℤ) (n e : ℕ) (v : ℤ) (used : ℕ) (c : Calls) → run_text lib p x n ≡ (value v used, c) → run_text lib p x (n + e) ≡ (value v used, c)
more_steps lib p x n e v used c h = more_deep lib e (suc n) (suc (n + e)) (Some p) x n (n + e) v used c refl (omega arith) h

-- The same of a tree: what is done is done with e more steps, which are left in the end.
pub more-exec : (lib : Library) (t : Tree) (m new : Memory) (n left e : ℕ) (c : Calls)
    → exec (run_name lib) t m n ≡ done new left c → exec (run_name lib) t m (n + e) ≡ done new (left + e) c
more-exec lib t m new n left e c h =
    let r = sim-tree (run_name lib) (run_name lib) (More e (n + e)) (λ c d. d ≡ c) (λ _. Unit {0}) any
    (λ a a' le low. tt)
    (λ k a b r le low. more-takes e (n + e) k a b r le)
    refl
    (λ c1 c2 e1 e2 h1 h2. ap (λ z. join z e2) h1 ∙ ap (join c1) h2)
    (λ q y a b w u inner r low g is.
    let ab : b ≡ a + e = omega (arith, r.0) in
    let ran = more_deep lib e (suc a) (suc b) (lib q) y a b w u inner ab (omega arith) is in
    (u, inner, ran, more-left e (n + e) a b u r (used_within lib (suc a) (lib q) y a w u inner is), refl))
    t m new n (n + e) left c (refl, omega arith) h tt (all-any c) in
    r.2 ∙ ap (λ z. done new z r.1) r.3.0 ∙ ap (done new (left + e)) r.4

-- e steps more than b, which are left at the end
abbrev Fewer : ℕ → ℕ → ℕ → ℕ → Type 0
Fewer e depth a b = (a ≡ b + e) × (b ≤ depth)

fewer-takes : (e depth k a b : ℕ) → Fewer e depth a b → k ≤ a → e ≤ a - k → (k ≤ b) × Fewer e depth (a - k) (b - k)
fewer-takes e depth k a b r le low = let h0 = r.0 in let h1 = r.1 in (omega (arith, h0), (omega (arith, h0), omega (arith, h1)))

fewer-left : (e depth a b u : ℕ) → Fewer e depth (suc a) (suc b) → u ≤ a → e ≤ a - u → Fewer e depth (a - u) (b - u)
fewer-left e depth a b u r le low = let h0 = r.0 in let h1 = r.1 in (omega (arith, h0), omega (arith, h1))

-- The law of fewer steps: the steps that a value used suffice for it.
pub fewer_deep : (lib : Library) (e d1 d2 : ℕ) (p : Option Text) (x : ℤ) (a b : ℕ) (v : ℤ) (used : ℕ) (c : Calls)
    → a ≡ b + e → used ≤ b → b < d2 → run_deep lib d1 p x a ≡ (value v used, c) → run_deep lib d2 p x b ≡ (value v used, c)
fewer_deep lib e d1 d2 None x a b v used c eq le lt h = absurd (let z : fault Missing 0 ≡ value v used = ap (λ (p : Outcome × Calls). p.0) h in cc)
fewer_deep lib e zero d2 (Some p) x a b v used c eq le lt h = absurd (let z : out 0 ≡ value v used = ap (λ (p : Outcome × Calls). p.0) h in cc)
fewer_deep lib e (suc d1) zero (Some p) x a b v used c eq le lt h = absurd (omega arith)
fewer_deep lib e (suc d1) (suc d2) (Some p) x a b v used c eq le lt h =
    let r = sim-run (λ q y k. run_deep lib d1 (lib q) y k) (λ q y k. run_deep lib d2 (lib q) y k) (Fewer e d2) (λ c d. d ≡ c) (λ n. e ≤ n) any
    (λ a a' le low. omega arith)
    (λ k a b r le low. fewer-takes e d2 k a b r le low)
    refl
    (λ c1 c2 e1 e2 h1 h2. ap (λ z. join z e2) h1 ∙ ap (join c1) h2)
    (λ q y a b w u inner r low g is.
    let ab : a ≡ b + e = omega (arith, r.0) in
    let in_depth : b < d2 = omega (arith, r.1) in
    let ua : u ≤ a = used_within lib d1 (lib q) y a w u inner is in
    let ran = fewer_deep lib e d1 d2 (lib q) y a b w u inner ab (omega arith) in_depth is in
    (u, inner, ran, fewer-left e d2 a b u r ua low, refl))
    (tree_of (instrs p)) x a b v used c (eq, omega arith) h (omega arith) (all-any c) in
    let same : r.0 ≡ used = omega (arith, r.3.0, r.4, r.5) in
    r.2 ∙ ap (λ z. (value v z, r.1)) same ∙ ap (λ z. (value v used, z)) r.6

-- The steps used suffice, and are within those that there were.
pub suffices : (lib : Library) (p : Text) (x : ℤ) (n n' : ℕ) (v : ℤ) (used : ℕ) (c : Calls)
    → run_text lib p x n ≡ (value v used, c) → (used ≤ n) × (used ≤ n' → run_text lib p x n' ≡ (value v used, c))
suffices lib p x n n' v used c h = (used_within lib (suc n) (Some p) x n v used c h, λ le. by_test (nat_lt n' n) refl le)
  where
    by_test : (t : Bool) → nat_lt n' n ≡ t → used ≤ n' → run_text lib p x n' ≡ (value v used, c)
    by_test true e le =
        let lt : n' < n = grind arith in
        fewer_deep lib (n - n') (suc n) (suc n') (Some p) x n n' v used c (omega arith) le (omega arith) h
    by_test false e le =
        let ge : n ≤ n' = grind arith in
        more_deep lib (n' - n) (suc n) (suc n') (Some p) x n n' v used c (omega arith) (omega arith) h
