-- Whether two programs are equal, by the tests that the derives write.
use Rattle.std.proofs.Common.{◌≡◌, ℕ, Bool, nat_eq, ◌&&◌, refl, ap, sym, ◌∙◌, IsTrue, ◌↔◌}
use Rattle.std.specs.Bool.{Decides}
use Rattle.std.proofs.lemmas.Bool.Decides.{Decides-eqb, Decides-int_eq}
use Rattle.std.proofs.lemmas.Bool.{and_parts, and_from}
use denote.Enum.Bare.{sameb, same_true, true_same}
use Rattle.loda_syntax.specs.contracts.instr.Verb.{the_type}
use Rattle.loda_syntax.specs.declared.instr.Verb.{Verb}
use Rattle.loda_syntax.specs.declared.instr.Operand.{Operand}
use Rattle.loda_syntax.specs.declared.instr.Operand.TheVariants.{Constant, Direct, Indirect}
use Rattle.loda_syntax.specs.declared.instr.Instr.{Instr}
use Rattle.loda_syntax.specs.declared.instr.Instr.TheVariants.{Arith, Clear, LoopStart, LoopEnd, Call}
use Rattle.loda_syntax.specs.contracts.instr.InstrPartialEq.TheImpl as instr
use Rattle.loda_syntax.specs.contracts.instr.OperandPartialEq.TheImpl as operand

operand_decides : (a b : Operand) → Decides (operand.eq-value.it a b) (a ≡ b)
operand_decides (Constant v) (Constant w) = let d = Decides-int_eq v w in (λ e. ap Constant (d.0 e), λ (e : Constant v ≡ Constant w). d.1 (cc))
operand_decides (Direct v) (Direct w) = let d = Decides-eqb v w in (λ e. ap Direct (d.0 e), λ (e : Direct v ≡ Direct w). d.1 (cc))
operand_decides (Indirect v) (Indirect w) = let d = Decides-eqb v w in (λ e. ap Indirect (d.0 e), λ (e : Indirect v ≡ Indirect w). d.1 (cc))
operand_decides (Constant v) (Direct w) = (λ e. absurd cc, λ e. absurd cc)
operand_decides (Constant v) (Indirect w) = (λ e. absurd cc, λ e. absurd cc)
operand_decides (Direct v) (Constant w) = (λ e. absurd cc, λ e. absurd cc)
operand_decides (Direct v) (Indirect w) = (λ e. absurd cc, λ e. absurd cc)
operand_decides (Indirect v) (Constant w) = (λ e. absurd cc, λ e. absurd cc)
operand_decides (Indirect v) (Direct w) = (λ e. absurd cc, λ e. absurd cc)

verb_decides : (v w : Verb) → Decides (sameb the_type v w) (v ≡ w)
verb_decides v w = (same_true the_type tt v w, true_same the_type v w)

-- a test of two parts
pair : {P Q R : Type 0} (a b : Bool) → Decides a P → Decides b Q → (P → Q → R) → (R → P × Q) → Decides (a && b) R
pair a b p q make parts = (λ e. let both = and_parts a b e in make (p.0 both.0) (q.0 both.1), λ r. let both = parts r in and_from a b (p.1 both.0) (q.1 both.1))

arith_same : (v w : Verb) (t u s r : Operand) → v ≡ w → (t ≡ u) × (s ≡ r) → Arith v t s ≡ Arith w u r
arith_same v w t u s r a h = let b = h.0 in let d = h.1 in cc

arith_parts : (v w : Verb) (t u s r : Operand) → Arith v t s ≡ Arith w u r → (v ≡ w) × ((t ≡ u) × (s ≡ r))
arith_parts v w t u s r e = (cc, (cc, cc))

clear_parts : (c d n m : ℕ) → Clear c n ≡ Clear d m → (c ≡ d) × (n ≡ m)
clear_parts c d n m e = (cc, cc)

loop_parts : (c d n m : ℕ) → LoopStart c n ≡ LoopStart d m → (c ≡ d) × (n ≡ m)
loop_parts c d n m e = (cc, cc)

call_parts : (t u : Operand) (n m : ℕ) → Call t n ≡ Call u m → (t ≡ u) × (n ≡ m)
call_parts t u n m e = (cc, cc)

pub instr_decides : (a b : Instr) → Decides (instr.eq-value.it a b) (a ≡ b)
instr_decides (Arith v t s) (Arith w u r) =
    pair (sameb the_type v w) (operand.eq-value.it t u && operand.eq-value.it s r) (verb_decides v w)
    (pair (operand.eq-value.it t u) (operand.eq-value.it s r) (operand_decides t u) (operand_decides s r) (λ p q. (p, q)) (λ x. x)) (arith_same v w t u s r) (arith_parts v w t u s r)
instr_decides (Clear c n) (Clear d m) = pair (nat_eq c d) (nat_eq n m) (Decides-eqb c d) (Decides-eqb n m) (λ p q. cc) (clear_parts c d n m)
instr_decides (LoopStart c n) (LoopStart d m) = pair (nat_eq c d) (nat_eq n m) (Decides-eqb c d) (Decides-eqb n m) (λ p q. cc) (loop_parts c d n m)
instr_decides (Call t n) (Call u m) = pair (operand.eq-value.it t u) (nat_eq n m) (operand_decides t u) (Decides-eqb n m) (λ p q. cc) (call_parts t u n m)
instr_decides LoopEnd LoopEnd = (λ e. refl, λ e. refl)
instr_decides (Arith v t s) (Clear c' n') = (λ e. absurd cc, λ e. absurd cc)
instr_decides (Arith v t s) (LoopStart c' n') = (λ e. absurd cc, λ e. absurd cc)
instr_decides (Arith v t s) LoopEnd = (λ e. absurd cc, λ e. absurd cc)
instr_decides (Arith v t s) (Call t' n') = (λ e. absurd cc, λ e. absurd cc)
instr_decides (Clear c n) (Arith v' t' s') = (λ e. absurd cc, λ e. absurd cc)
instr_decides (Clear c n) (LoopStart c' n') = (λ e. absurd cc, λ e. absurd cc)
instr_decides (Clear c n) LoopEnd = (λ e. absurd cc, λ e. absurd cc)
instr_decides (Clear c n) (Call t' n') = (λ e. absurd cc, λ e. absurd cc)
instr_decides (LoopStart c n) (Arith v' t' s') = (λ e. absurd cc, λ e. absurd cc)
instr_decides (LoopStart c n) (Clear c' n') = (λ e. absurd cc, λ e. absurd cc)
instr_decides (LoopStart c n) LoopEnd = (λ e. absurd cc, λ e. absurd cc)
instr_decides (LoopStart c n) (Call t' n') = (λ e. absurd cc, λ e. absurd cc)
instr_decides LoopEnd (Arith v' t' s') = (λ e. absurd cc, λ e. absurd cc)
instr_decides LoopEnd (Clear c' n') = (λ e. absurd cc, λ e. absurd cc)
instr_decides LoopEnd (LoopStart c' n') = (λ e. absurd cc, λ e. absurd cc)
instr_decides LoopEnd (Call t' n') = (λ e. absurd cc, λ e. absurd cc)
instr_decides (Call t n) (Arith v' t' s') = (λ e. absurd cc, λ e. absurd cc)
instr_decides (Call t n) (Clear c' n') = (λ e. absurd cc, λ e. absurd cc)
instr_decides (Call t n) (LoopStart c' n') = (λ e. absurd cc, λ e. absurd cc)
instr_decides (Call t n) LoopEnd = (λ e. absurd cc, λ e. absurd cc)

-- the same of what the lists are seen as
pub decided : {X : Type 0} (r : Bool) (xs ys vs ws : X) → xs ≡ vs → ys ≡ ws → Decides r (xs ≡ ys) → IsTrue r ↔ (vs ≡ ws)
decided r xs ys vs ws p q d = (λ t. sym p ∙ d.0 t ∙ q, λ e. d.1 (p ∙ e ∙ sym q))
