-- Outcomes as they are told.
use Rattle.std.proofs.Common.{ℕ, ◌<◌, ◌≡◌, refl, sym, ap, subst, ◌∙◌, arith, ℤ, pos, Bool, true, false}
use Rattle.std.specs.Prelude.{IsTrue, IsFalse}
use Rattle.seq_calls.proofs.Values.{same_int-is, same_int-true}
use Rattle.seq_calls.specs.Values.{gives, Gives, same_int}
use Rattle.loda_semantics.specs.Exec.{Outcome, value, fault, out}
use Rattle.seq_calls.specs.declared.outcomes.Outcome.TheVariants as told_as
use Rattle.seq_calls.specs.Frames.{told, steps_of}
use Rattle.judge.specs.declared.answer.Got.{Got}
use Rattle.judge.specs.declared.answer.Got.TheVariants as got
use Rattle.judge.specs.Passed.{agree}
use Rattle.judge.specs.Misses.{got_told}
use Rattle.judge.proofs.Misses.{false_unless}

-- what isn't got as a number doesn't give it
pub not_got : (o : Outcome) (v : ℤ) → (got_told (told o) ≡ got.Value v → ⊥) → IsFalse (gives o v)
not_got (value w n) v h = false_unless (same_int w v) (λ s. h (ap (λ (z : ℤ). got.Value z) (same_int-is w v s)))
not_got (fault k n) v h = refl
not_got (out n) v h = refl

-- the old outcome is this value, which the new one doesn't give
pub disagree : (a b : Outcome) (v : ℤ) (n : ℕ) → a ≡ value v n → IsFalse (gives b v) → IsFalse (agree a b)
disagree a b v n e f = subst (λ (z : Outcome). IsFalse (agree z b)) (sym e) f

pub agreeing : (a b : Outcome) (v : ℤ) (n m : ℕ) → a ≡ value v n → b ≡ value v m → IsFalse (agree a b) → ⊥
agreeing a b v n m e f h =
    let t : IsFalse (same_int v v) = subst (λ (z : Outcome). IsFalse (agree (value v n) z)) f (subst (λ (z : Outcome). IsFalse (agree z b)) e h) in
    let s : IsTrue (same_int v v) = same_int-true v in
    let x : false ≡ true = sym t ∙ s in cc

pub steps_value : (o : Outcome) (v : ℤ) (n : ℕ) → o ≡ value v n → steps_of o ≡ n
steps_value o v n e = ap steps_of e

pub gives_it : (o : Outcome) (v : ℤ) (n : ℕ) → o ≡ value v n → Gives o v
gives_it o v n e = subst (λ (z : Outcome). Gives z v) (sym e) (same_int-true v)

pub steps_same : (o : Outcome) → steps_of o ≡ steps_of o
steps_same (value v n) = refl
steps_same (fault k n) = refl
steps_same (out n) = refl
