-- A run depends on the programs of the names that it reaches alone.
use Rattle.std.proofs.Common.{ℕ, zero, suc, ◌≡◌, refl, sym, ap, ◌∙◌, arith, ℤ, Contains}
use Rattle.std.specs.Prelude.{if◌then◌else◌}
use Rattle.std.specs.declared.option.Option.{Option}
use Rattle.std.specs.declared.option.Option.TheVariants.{Some, None}
use Rattle.loda_syntax.specs.declared.instr.Instr.{Instr}
use Rattle.loda_syntax.specs.declared.instr.Instr.TheVariants.{Arith, Clear, LoopStart, LoopEnd, Call}
use Rattle.loda_syntax.specs.Programs.{Text, instrs}
use Rattle.loda_syntax.specs.Trees.{Tree, end, step, loop, tree_of}
use Rattle.loda_semantics.specs.Memory.{Memory, memory_with, address, is_less}
use Rattle.loda_semantics.specs.Laws.{left_of}
use Rattle.loda_semantics.specs.Exec.{Outcome, Calls, none, Ending, done, and_then, charge, Callee, called, call_at, single, turns_of, exec, outcome_of, Library, run_deep, run_name}
use Rattle.loda_semantics.proofs.Same.{same-then, same-charge}
use Rattle.program_store.specs.Graph.{calls_of}
use Rattle.judge.proofs.Traces.{CallsOnly, HasOnly, tree_has}

-- ---- callees that agree on the names of a tree give the same run of it

then_same : (r : Ending) (f1 f2 : Memory → ℕ → Ending) → ((m : Memory) (n : ℕ) → f1 m n ≡ f2 m n) → and_then r f1 ≡ and_then r f2
then_same r f1 f2 same = same-then (left_of r) r f1 f2 (omega arith) (λ m n le. same m n)

charge_same : (k n : ℕ) (f1 f2 : ℕ → Ending) → ((n : ℕ) → f1 n ≡ f2 n) → charge k n f1 ≡ charge k n f2
charge_same k n f1 f2 same = same-charge k n f1 f2 (λ n' e. same n')

turns_same : (body1 body2 : Memory → ℕ → Ending) (c k : ℕ) → ((m : Memory) (n : ℕ) → body1 m n ≡ body2 m n) → (t : ℕ) (m : Memory) (n : ℕ) → turns_of body1 c k t m n ≡ turns_of body2 c k t m n
turns_same body1 body2 c k bodies zero m n = refl
turns_same body1 body2 c k bodies (suc t) m n =
    let go1 = λ (new : Memory) (n : ℕ). if is_less k c new m then turns_of body1 c k t new n else done m n none in
    let go2 = λ (new : Memory) (n : ℕ). if is_less k c new m then turns_of body2 c k t new n else done m n none in
    then_same (body1 m n) (λ new n. charge k n (go1 new)) (λ new n. charge k n (go2 new))
    (λ new n. charge_same k n (go1 new) (go2 new) λ n. ap (λ r. if is_less k c new m then r else done m n none) (turns_same body1 body2 c k bodies t new n))
    ∙ ap (λ r. and_then r (λ new n. charge k n (go2 new))) (bodies m n)

module _ (P : ℕ → Type 0) (callee1 callee2 : Callee) (agree : (q : ℕ) → P q → (x : ℤ) (n : ℕ) → callee1 q x n ≡ callee2 q x n) where
  call_same : (q : ℕ) → P q → (m : Memory) (n : ℕ) (at : Option ℕ) → call_at callee1 q m n at ≡ call_at callee2 q m n at
  call_same q there m n None = refl
  call_same q there m n (Some t) = ap (λ (ran : Outcome × Calls). called q (m t) m n t ran.0 ran.1) (agree q there (m t) n)

  single_same : (i : Instr) → CallsOnly P i → (m : Memory) (n : ℕ) → single callee1 i m n ≡ single callee2 i m n
  single_same (Arith v t s) h m n = refl
  single_same (Clear c k) h m n = refl
  single_same (Call t q) h m n = charge_same 1 n (λ n. call_at callee1 q m n (address m t)) (λ n. call_at callee2 q m n (address m t)) λ n. call_same q h m n (address m t)
  single_same (LoopStart c k) h m n = refl
  single_same LoopEnd h m n = refl

  pub tree_same : (t : Tree) → HasOnly P t → (m : Memory) (n : ℕ) → exec callee1 t m n ≡ exec callee2 t m n
  tree_same end h m n = refl
  tree_same (step i rest) h m n =
      then_same (single callee1 i m n) (exec callee1 rest) (exec callee2 rest) (λ m n. tree_same rest h.1 m n)
      ∙ ap (λ r. and_then r (exec callee2 rest)) (single_same i h.0 m n)
  tree_same (loop c k body rest) h m n =
      let f1 = λ (n : ℕ). turns_of (exec callee1 body) c k (suc n) m n in
      let f2 = λ (n : ℕ). turns_of (exec callee2 body) c k (suc n) m n in
      then_same (charge 1 n f1) (exec callee1 rest) (exec callee2 rest) (λ m n. tree_same rest h.1 m n)
      ∙ ap (λ r. and_then r (exec callee2 rest))
      (charge_same 1 n f1 f2 λ n. turns_same (exec callee1 body) (exec callee2 body) c k (λ m n. tree_same body h.0 m n) (suc n) m n)

-- ---- runs in two libraries

module _
    (P : ℕ → Type 0)
    (lib1 lib2 : Library)
    (same : (r : ℕ) → P r → lib2 r ≡ lib1 r)
    (closed : (r : ℕ) → P r → (p : Text) → lib1 r ≡ Some p → (n : ℕ) → Contains (calls_of p) n → P n)
  where
    -- a text whose calls have the property runs alike
    pub text_same : (d : ℕ) (p : Text) → ((n : ℕ) → Contains (calls_of p) n → P n) → (x : ℤ) (n : ℕ) → run_deep lib1 d (Some p) x n ≡ run_deep lib2 d (Some p) x n
    text_same zero p h x n = refl
    text_same (suc d) p h x n =
        ap (outcome_of n)
        (tree_same P (λ q y k. run_deep lib1 d (lib1 q) y k) (λ q y k. run_deep lib2 d (lib2 q) y k)
        (λ q there y k. by_program q there y k (lib1 q) refl (λ p e. text_same d p (λ r c. closed q there p e r c) y k))
        (tree_of (instrs p)) (tree_has P (instrs p) h) (memory_with x) n)
      where
        by_program : (q : ℕ) → P q → (y : ℤ) (k : ℕ) (o : Option Text) → lib1 q ≡ o → ((p : Text) → lib1 q ≡ Some p → run_deep lib1 d (Some p) y k ≡ run_deep lib2 d (Some p) y k)
            → run_deep lib1 d (lib1 q) y k ≡ run_deep lib2 d (lib2 q) y k
        by_program q there y k None e go =
            ap (λ (o : Option Text). run_deep lib1 d o y k) e ∙ ap (λ (o : Option Text). run_deep lib2 d o y k) (sym (same q there ∙ e))
        by_program q there y k (Some p) e go =
            ap (λ (o : Option Text). run_deep lib1 d o y k) e ∙ go p e ∙ ap (λ (o : Option Text). run_deep lib2 d o y k) (sym (same q there ∙ e))

    -- and so does a name with the property
    pub name_same : (q : ℕ) → P q → (x : ℤ) (n : ℕ) → run_name lib1 q x n ≡ run_name lib2 q x n
    name_same q there x n = by_program (lib1 q) refl
      where
        by_program : (o : Option Text) → lib1 q ≡ o → run_name lib1 q x n ≡ run_name lib2 q x n
        by_program None e =
            ap (λ (o : Option Text). run_deep lib1 (suc n) o x n) e ∙ ap (λ (o : Option Text). run_deep lib2 (suc n) o x n) (sym (same q there ∙ e))
        by_program (Some p) e =
            ap (λ (o : Option Text). run_deep lib1 (suc n) o x n) e ∙ text_same (suc n) p (λ r c. closed q there p e r c) x n
            ∙ ap (λ (o : Option Text). run_deep lib2 (suc n) o x n) (sym (same q there ∙ e))
