-- Two sources that give the same first words.
use Rattle.std.proofs.Common.{◌≡◌, ℕ, suc, ◌≤◌, ◌%◌, Bool, true, false, if◌then◌else◌, ap, subst, arith}
use Rattle.rand_core.specs.Stream.{Stream}
use Rattle.word_stream.specs.Words.{below, rest, SameWords}

-- the next word
pub same_first : (n : ℕ) (one other : Stream) → SameWords (suc n) one other → (m : ℕ) → below m one ≡ below m other
same_first n one other s m = ap (λ (w : ℕ). w % m) (s.each 0 (omega arith))

-- those behind it
pub same_rest : (n : ℕ) (one other : Stream) → SameWords (suc n) one other → SameWords n (rest one) (rest other)
same_rest n one other s = record { each = λ k h. s.each (suc k) (omega (arith, h)) }

-- fewer of them
pub same_fewer : (n m : ℕ) (one other : Stream) → m ≤ n → SameWords n one other → SameWords m one other
same_fewer n m one other le s = record { each = λ k h. s.each k (omega (arith, h, le)) }

-- what was drawn is the same, and so are the next words behind it
pub record SameDrawn {A : Type 0} (n : ℕ) (p q : A × Stream) : Type 0 where
  pub value : p.0 ≡ q.0
  pub words : SameWords n p.1 q.1

of_same : {A : Type 0} (R : A → A → Type 0) (t : Bool) (x x' y y' : A) → R x x' → R y y' → R (if t then x else y) (if t then x' else y')
of_same R true x x' y y' p q = p
of_same R false x x' y y' p q = q

-- what holds of both values holds of two choices by one test
pub of_choices : {A : Type 0} (R : A → A → Type 0) (t u : Bool) (x x' y y' : A) → t ≡ u → R x x' → R y y' → R (if t then x else y) (if u then x' else y')
of_choices R t u x x' y y' e p q = subst (λ (b : Bool). R (if t then x else y) (if b then x' else y')) e (of_same R t x x' y y' p q)
