-- One program replaced by another: what holds of the runs that demand it at good arguments alone.
use Rattle.std.proofs.Common.{ℕ, zero, suc, ◌+◌, ◌-◌, ◌<◌, ◌≤◌, ◌≡◌, ◌≢◌, refl, ap, subst, ◌∙◌, arith, ℤ, Bool, true, false, eqb}
use Rattle.std.specs.Prelude.{◌⊎◌}
use Rattle.std.proofs.Common.{inl, inr}
use Rattle.std.specs.declared.option.Option.{Option}
use Rattle.std.specs.declared.option.Option.TheVariants.{Some, None}
use Rattle.loda_syntax.specs.Programs.{Text, instrs}
use Rattle.loda_syntax.specs.Trees.{tree_of}
use Rattle.loda_semantics.specs.declared.kinds.FaultKind.TheVariants.{Missing}
pub use Rattle.loda_semantics.specs.Laws.{AllTrace, Cheaper}
use Rattle.loda_semantics.specs.Exec.{Outcome, value, fault, out, Calls, none, call, Library, run_deep, run_name}
use Rattle.loda_semantics.proofs.Simulation.{AllGood, sim-run}
use Rattle.loda_semantics.proofs.Laws.{more_deep, same-deep, used_within}

good-of-trace : (P : ℕ → ℤ → Type 0) (c : Calls) → AllTrace P c → AllGood (λ q x inner. P q x × AllTrace P inner) c
good-of-trace P none t = tt
good-of-trace P (call q x o inner rest) t = ((t.0, t.1), good-of-trace P rest t.2)

decide : (a b : ℕ) → (a ≡ b) ⊎ (a ≢ b)
decide a b = by_test (eqb a b) refl
  where
    by_test : (t : Bool) → eqb a b ≡ t → (a ≡ b) ⊎ (a ≢ b)
    by_test true e = inl (grind arith)
    by_test false e = inr (grind arith)

AtLeast : ℕ → ℕ → ℕ → ℕ → Type 0
AtLeast d depth a b = (a + d ≤ b) × (b ≤ depth)

takes : (d depth k a b : ℕ) → AtLeast d depth a b → k ≤ a → (k ≤ b) × AtLeast d depth (a - k) (b - k)
unfolding AtLeast
takes d depth k a b r le = let h0 = r.0 in let h1 = r.1 in (omega (arith, h0), (omega (arith, h0), omega (arith, h1)))

left : (d depth a b u1 u2 : ℕ) → AtLeast d depth (suc a) (suc b) → u1 ≤ a → u2 ≤ u1 → AtLeast d depth (a - u1) (b - u2)
unfolding AtLeast
left d depth a b u1 u2 r le1 le2 = let h0 = r.0 in let h1 = r.1 in (omega (arith, h0), omega (arith, h1))

at_least : (d depth a b : ℕ) → AtLeast d depth (suc a) (suc b) → (a + d ≤ b) × (b < depth)
unfolding AtLeast
at_least d depth a b r = let h0 = r.0 in let h1 = r.1 in (omega (arith, h0), omega (arith, h1))

begins : (a b depth : ℕ) → a ≤ b → b < suc depth → AtLeast (b - a) depth a b
unfolding AtLeast
begins a b depth le lt = (omega arith, omega arith)

left-steps : (d depth a b u1 u2 : ℕ) → a + d ≡ b → AtLeast d depth (a - u1) (b - u2) → u1 ≤ a → u2 ≤ b → u2 ≤ u1
unfolding AtLeast
left-steps d depth a b u1 u2 e r h1 h2 = let h0 = r.0 in omega (arith, h0)

module _ (lib1 lib2 : Library) (q0 : ℕ) (others : (r : ℕ) → r ≢ q0 → lib2 r ≡ lib1 r) (Demanded : ℤ → Type 0) (cheaper : (x : ℤ) → Demanded x → Cheaper lib1 lib2 q0 x) where
  callee_agrees : (d1 d2 e q : ℕ) (y : ℤ) (a b : ℕ) (w : ℤ) (w1 : ℕ) (inner : Calls) → AtLeast e d2 (suc a) (suc b) → (q ≡ q0 → Demanded y)
      → run_deep lib1 d1 (lib1 q) y a ≡ (value w w1, inner)
      → (u2 : ℕ) × (c2 : Calls) × (run_deep lib2 d2 (lib1 q) y b ≡ (value w u2, c2)) × (u2 ≤ w1)
      → (q ≡ q0) ⊎ (q ≢ q0)
      → (u2 : ℕ) × (c2 : Calls) × (run_deep lib2 d2 (lib2 q) y b ≡ (value w u2, c2)) × AtLeast e d2 (a - w1) (b - u2) × Unit {0}
  callee_agrees d1 d2 e q y a b w w1 inner r dem is ran (inr other) =
      (ran.0, ran.1, ap (λ o. run_deep lib2 d2 o y b) (others q other) ∙ ran.2, left e d2 a b w1 ran.0 r (used_within lib1 d1 (lib1 q) y a w w1 inner is) ran.3, tt)
  callee_agrees d1 d2 e q y a b w w1 inner r dem is ran (inl same) =
      let old : run_name lib1 q0 y a ≡ (value w w1, inner) = subst (λ z. run_name lib1 z y a ≡ (value w w1, inner)) same (more_deep lib1 0 d1 (suc a) (lib1 q) y a a w w1 inner (omega arith) (omega arith) is) in
      let new = cheaper y (dem same) a w w1 inner old in
      let within : w1 ≤ a = used_within lib1 d1 (lib1 q) y a w w1 inner is in
      let bounds = at_least e d2 a b r in
      let suffices : new.0 ≤ b = (let h = bounds.0 in let k = new.2 in omega (arith, h, k)) in (
        new.0,
        new.1,
        same-deep lib2 d2 (suc b) (lib2 q) y b bounds.1 (omega arith) ∙ ap (λ z. run_name lib2 z y b) same ∙ new.3 b suffices,
        left e d2 a b w1 new.0 r within new.2,
        tt,
      )

  -- A run that calls the replaced name at demanded arguments alone keeps its value, with no more steps.
  pub keeps_deep : (d1 d2 : ℕ) (p : Option Text) (x : ℤ) (a b : ℕ) (v : ℤ) (u1 : ℕ) (c1 : Calls)
      → a ≤ b → b < d2 → run_deep lib1 d1 p x a ≡ (value v u1, c1) → AllTrace (λ r y. r ≡ q0 → Demanded y) c1
      → (u2 : ℕ) × (c2 : Calls) × (run_deep lib2 d2 p x b ≡ (value v u2, c2)) × (u2 ≤ u1)
  keeps_deep d1 d2 None x a b v u1 c1 le lt h t = absurd (let z : fault Missing 0 ≡ value v u1 = ap (λ (p : Outcome × Calls). p.0) h in cc)
  keeps_deep zero d2 (Some p) x a b v u1 c1 le lt h t = absurd (let z : out 0 ≡ value v u1 = ap (λ (p : Outcome × Calls). p.0) h in cc)
  keeps_deep (suc d1) zero (Some p) x a b v u1 c1 le lt h t = absurd (omega arith)
  keeps_deep (suc d1) (suc d2) (Some p) x a b v u1 c1 le lt h t =
      let P = λ (r : ℕ) (y : ℤ). r ≡ q0 → Demanded y in
      let r = sim-run (λ q y k. run_deep lib1 d1 (lib1 q) y k) (λ q y k. run_deep lib2 d2 (lib2 q) y k) (AtLeast (b - a) d2) (λ c d. Unit {0}) (λ _. Unit {0})
      (λ q y inner. P q y × AllTrace P inner)
      (λ a a' le low. tt)
      (λ k a b r le low. takes _ d2 k a b r le)
      tt
      (λ c1 c2 e1 e2 h1 h2. tt)
      (λ q y a1 b1 w w1 inner r low g is.
      let bounds = at_least (b - a) d2 a1 b1 r in
      callee_agrees d1 d2 (b - a) q y a1 b1 w w1 inner r g.0 is
      (keeps_deep d1 d2 (lib1 q) y a1 b1 w w1 inner (let h = bounds.0 in omega (arith, h)) bounds.1 is g.1) (decide q q0))
      (tree_of (instrs p)) x a b v u1 c1 (begins a b d2 le lt) h tt (good-of-trace P c1 t) in
      (r.0, r.1, r.2, left-steps (b - a) d2 a b u1 r.0 (omega arith) r.3 r.4 r.5)
