-- Callees that agree with fewer than n steps give the same run with n steps.
use Rattle.std.proofs.Common.{ℕ, zero, suc, ◌+◌, ◌-◌, ◌<◌, ◌≤◌, ◌≡◌, refl, ap, ◌∙◌, arith, ℤ, Bool, true, false, nat_lt}
use Rattle.std.specs.Prelude.{if◌then◌else◌}
use Rattle.std.specs.declared.option.Option.{Option}
use Rattle.std.specs.declared.option.Option.TheVariants.{Some, None}
use Rattle.loda_syntax.specs.declared.instr.Instr.{Instr}
use Rattle.loda_syntax.specs.declared.instr.Instr.TheVariants.{Arith, Clear, LoopStart, LoopEnd, Call}
use Rattle.loda_syntax.specs.Trees.{Tree, end, step, loop}
use Rattle.loda_semantics.specs.Memory.{Memory, address, is_less}
use Rattle.loda_semantics.specs.Exec.{Outcome, Calls, none, Ending, done, failed, spent, after_calls, and_then, charge, Callee, called, call_at, single, turns_of, exec}
use Rattle.loda_semantics.proofs.Simulation.{left_of, left-single, left-exec, left-turns, left-charge}

pub same-then : (most : ℕ) (r : Ending) (f1 f2 : Memory → ℕ → Ending) → left_of r ≤ most → ((m : Memory) (a : ℕ) → a ≤ most → f1 m a ≡ f2 m a) → and_then r f1 ≡ and_then r f2
same-then most (done m a c) f1 f2 le same = ap (after_calls c) (same m a le)
same-then most (failed k a c) f1 f2 le same = refl
same-then most (spent a c) f1 f2 le same = refl

pub same-charge : (k n : ℕ) (f1 f2 : ℕ → Ending) → ((n' : ℕ) → n' + k ≡ n → f1 n' ≡ f2 n') → charge k n f1 ≡ charge k n f2
same-charge k n f1 f2 same = by_test (nat_lt n k) refl
  where
    by_test : (t : Bool) → nat_lt n k ≡ t → ◌≡◌ {A = Ending} (if t then spent n none else f1 (n - k)) (if t then spent n none else f2 (n - k))
    by_test true e = refl
    by_test false e = same (n - k) (let ka : k ≤ n = grind arith in omega arith)

same-turns : (body1 body2 : Memory → ℕ → Ending) (c k most : ℕ) → ((m : Memory) (a : ℕ) → left_of (body1 m a) ≤ a) → ((m : Memory) (a : ℕ) → a ≤ most → body1 m a ≡ body2 m a)
    → (t : ℕ) (m : Memory) (a : ℕ) → a ≤ most → turns_of body1 c k t m a ≡ turns_of body2 c k t m a
same-turns body1 body2 c k most left bodies zero m a le = refl
same-turns body1 body2 c k most left bodies (suc t) m a le =
    let go1 = λ (new : Memory) (n : ℕ). if is_less k c new m then turns_of body1 c k t new n else done m n none in
    let go2 = λ (new : Memory) (n : ℕ). if is_less k c new m then turns_of body2 c k t new n else done m n none in
    same-then a (body1 m a) (λ new n. charge k n (go1 new)) (λ new n. charge k n (go2 new)) (left m a)
    (λ new n le'. same-charge k n (go1 new) (go2 new) λ n' e. ap (λ r. if is_less k c new m then r else done m n' none) (same-turns body1 body2 c k most left bodies t new n' (omega arith)))
    ∙ ap (λ r. and_then r (λ new n. charge k n (go2 new))) (bodies m a le)

module _ (callee1 callee2 : Callee) (most : ℕ) (agree : (q : ℕ) (x : ℤ) (n : ℕ) → n < most → callee1 q x n ≡ callee2 q x n) where
  same-call_at : (q : ℕ) (m : Memory) (n : ℕ) (at : Option ℕ) → n < most → call_at callee1 q m n at ≡ call_at callee2 q m n at
  same-call_at q m n None lt = refl
  same-call_at q m n (Some t) lt = ap (λ (ran : Outcome × Calls). called q (m t) m n t ran.0 ran.1) (agree q (m t) n lt)

  same-single : (i : Instr) (m : Memory) (n : ℕ) → n ≤ most → single callee1 i m n ≡ single callee2 i m n
  same-single (Arith v t s) m n le = refl
  same-single (Clear c k) m n le = refl
  same-single (Call t q) m n le = same-charge 1 n (λ n. call_at callee1 q m n (address m t)) (λ n. call_at callee2 q m n (address m t)) λ n' e. same-call_at q m n' (address m t) (omega arith)
  same-single (LoopStart c k) m n le = refl
  same-single LoopEnd m n le = refl

  pub same-exec : (t : Tree) (m : Memory) (n : ℕ) → n ≤ most → exec callee1 t m n ≡ exec callee2 t m n
  same-exec end m n le = refl
  same-exec (step i rest) m n le =
      same-then most (single callee1 i m n) (exec callee1 rest) (exec callee2 rest) (let h = left-single callee1 i m n in omega arith) (λ m a le. same-exec rest m a le)
      ∙ ap (λ r. and_then r (exec callee2 rest)) (same-single i m n le)
  same-exec (loop c k body rest) m n le =
      let f1 = λ (n : ℕ). turns_of (exec callee1 body) c k (suc n) m n in
      let f2 = λ (n : ℕ). turns_of (exec callee2 body) c k (suc n) m n in
      let left = λ (m : Memory) (a : ℕ). left-exec callee1 body m a in
      same-then most (charge 1 n f1) (exec callee1 rest) (exec callee2 rest)
      (let h = left-charge callee1 1 n f1 (λ a. left-turns callee1 (exec callee1 body) c k left (suc a) m a) in omega arith) (λ m a le. same-exec rest m a le)
      ∙ ap (λ r. and_then r (exec callee2 rest))
      (same-charge 1 n f1 f2 λ n' e. same-turns (exec callee1 body) (exec callee2 body) c k most left (λ m a le. same-exec body m a le) (suc n') m n' (omega arith))
