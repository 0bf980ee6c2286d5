-- One turn of a loop, and then the rest: how many turns are allowed doesn't matter where there are more than steps.
use Rattle.std.proofs.Common.{ℕ, zero, suc, ◌<◌, ◌≤◌, ◌≡◌, refl, arith, Bool, true, false}
use Rattle.std.specs.Prelude.{if◌then◌else◌}
use Rattle.loda_semantics.specs.Memory.{Memory, is_less}
use Rattle.loda_semantics.specs.Exec.{none, Ending, done, and_then, charge, turns_of}
use Rattle.loda_semantics.proofs.Simulation.{left_of, less_positive}
use Rattle.loda_semantics.proofs.Same.{same-then, same-charge}

module _ (body : Memory → ℕ → Ending) (left : (m : Memory) (n : ℕ) → left_of (body m n) ≤ n) (c k : ℕ) where
  pub same-fuel : (t1 t2 : ℕ) (m : Memory) (n : ℕ) → n < t1 → n < t2 → turns_of body c k t1 m n ≡ turns_of body c k t2 m n
  same-fuel zero t2 m n h1 h2 = absurd (omega arith)
  same-fuel (suc t1) zero m n h1 h2 = absurd (omega arith)
  same-fuel (suc t1) (suc t2) m n h1 h2 =
      same-then n (body m n) (λ new n. charge k n (go t1 new)) (λ new n. charge k n (go t2 new)) (left m n)
      λ new n1 le. same-charge k n1 (go t1 new) (go t2 new) λ n2 e.
      by_test (is_less k c new m) new n2 refl (λ yes. let pos : 0 < k = less_positive k c new m yes in same-fuel t1 t2 new n2 (omega arith) (omega arith))
    where
      go : ℕ → Memory → ℕ → Ending
      go t new n = if is_less k c new m then turns_of body c k t new n else done m n none

      by_test : (b : Bool) (new : Memory) (n : ℕ) → is_less k c new m ≡ b → (is_less k c new m ≡ true → turns_of body c k t1 new n ≡ turns_of body c k t2 new n)
          → ◌≡◌ {A = Ending} (if b then turns_of body c k t1 new n else done m n none) (if b then turns_of body c k t2 new n else done m n none)
      by_test true new n e again = again e
      by_test false new n e again = refl

  -- A turn runs the body, is charged the region, and goes on where the region is less.
  pub turns-is : (m : Memory) (n : ℕ) → turns_of body c k (suc n) m n
      ≡ and_then (body m n) (λ new n. charge k n λ n. if is_less k c new m then turns_of body c k (suc n) new n else done m n none)
  turns-is m n =
      same-then n (body m n) (λ new n1. charge k n1 (go n new)) (λ new n1. charge k n1 λ n2. if is_less k c new m then turns_of body c k (suc n2) new n2 else done m n2 none) (left m n)
      λ new n1 le. same-charge k n1 (go n new) (λ n2. if is_less k c new m then turns_of body c k (suc n2) new n2 else done m n2 none) λ n2 e.
      by_test (is_less k c new m) new n2 refl (λ yes. let pos : 0 < k = less_positive k c new m yes in same-fuel n (suc n2) new n2 (omega arith) (omega arith))
    where
      go : ℕ → Memory → ℕ → Ending
      go t new n = if is_less k c new m then turns_of body c k t new n else done m n none

      by_test : (b : Bool) (new : Memory) (n2 : ℕ) → is_less k c new m ≡ b → (is_less k c new m ≡ true → turns_of body c k n new n2 ≡ turns_of body c k (suc n2) new n2)
          → ◌≡◌ {A = Ending} (if b then turns_of body c k n new n2 else done m n2 none) (if b then turns_of body c k (suc n2) new n2 else done m n2 none)
      by_test true new n2 e again = again e
      by_test false new n2 e again = refl
