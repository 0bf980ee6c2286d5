-- Which value an outcome is.
use Rattle.std.proofs.Common.{ℕ, ◌≡◌, sym, ap, subst, arith, ℤ, pos, negsuc, true, false, eqb}
use Rattle.std.specs.Prelude.{IsTrue}
use Rattle.loda_semantics.specs.Exec.{Outcome, value, fault, out}
use Rattle.seq_calls.specs.declared.outcomes.Outcome.TheVariants as told_as
use Rattle.seq_calls.specs.Frames.{told}
use Rattle.seq_calls.specs.Values.{same_int, Gives}

eqb-is : (a b : ℕ) → IsTrue (eqb a b) → a ≡ b
eqb-is a b h = grind arith

eqb-true : (a : ℕ) → IsTrue (eqb a a)
eqb-true a = grind arith

pub same_int-is : (a b : ℤ) → IsTrue (same_int a b) → a ≡ b
same_int-is (pos a) (pos b) h = ap pos (eqb-is a b h)
same_int-is (negsuc a) (negsuc b) h = ap negsuc (eqb-is a b h)
same_int-is (pos a) (negsuc b) h = absurd (let e : false ≡ true = h in cc)
same_int-is (negsuc a) (pos b) h = absurd (let e : false ≡ true = h in cc)

pub same_int-true : (a : ℤ) → IsTrue (same_int a a)
same_int-true (pos a) = eqb-true a
same_int-true (negsuc a) = eqb-true a

-- what gives a number is that value
pub gives_value : (o : Outcome) (t : ℤ) → Gives o t → (used : ℕ) × (o ≡ value t used)
gives_value (value w n) t g = (n, ap (λ z. value z n) (same_int-is w t g))
gives_value (fault k n) t g = absurd (let e : false ≡ true = g in cc)
gives_value (out n) t g = absurd (let e : false ≡ true = g in cc)

pub gives_this : (o : Outcome) (t : ℤ) (used : ℕ) → o ≡ value t used → Gives o t
gives_this o t used e = subst (λ z. Gives z t) (sym e) (same_int-true t)

-- an outcome that is the value v gives no other number
pub gives_same : (o : Outcome) (v t : ℤ) (used : ℕ) → o ≡ value v used → Gives o t → t ≡ v
gives_same o v t used e g = sym (same_int-is v t (subst (λ z. Gives z t) e g))

-- what is told as a value is that value
pub told_value : (o : Outcome) (v : ℤ) (n : ℕ) → told o ≡ told_as.Value v n → o ≡ value v n
told_value (value w m) v n e = let z : told_as.Value w m ≡ told_as.Value v n = e in cc
told_value (fault k m) v n e = absurd (let z : told_as.Fault k m ≡ told_as.Value v n = e in cc)
told_value (out m) v n e = absurd (let z : told_as.OutOfSteps ≡ told_as.Value v n = e in cc)
