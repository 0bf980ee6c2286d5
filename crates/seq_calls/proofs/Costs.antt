-- A call costs a step: fewer are left where a machine calls.
use Rattle.std.proofs.Common.{ℕ, zero, suc, ◌-◌, ◌<◌, ◌≤◌, ◌≡◌, refl, sym, ap, ◌∙◌, arith, ℤ, Bool, true, false, nat_lt, List, [], ◌∷◌, drop}
use Rattle.std.specs.Prelude.{if◌then◌else◌}
use Rattle.loda_syntax.specs.declared.instr.Instr.{Instr}
use Rattle.loda_syntax.specs.Programs.{instrs}
use Rattle.loda_syntax.specs.Trees.{Tree, trees, first_tree, rest_of}
use Rattle.loda_semantics.specs.declared.kinds.FaultKind.TheVariants.{Missing}
use Rattle.loda_semantics.specs.Memory.{Memory, is_less}
use Rattle.loda_semantics.specs.Exec.{Outcome, fault, out, Calls, none, call, Ending, done, failed, spent, after_calls, and_then, charge, Callee, turns_of, exec}
use Rattle.loda_semantics.proofs.Simulation.{left_of, left-charge, left-turns, left-exec}
use Rattle.loda_semantics.proofs.Same.{same-then, same-charge, same-exec}
use Rattle.lex_loops.specs.declared.stop.Stop.TheVariants as stop
use Rattle.lex_loops.specs.Memories.{memory_of}
use Rattle.lex_loops.specs.State.{OpenLoop, MachineState, finish, loops_of, run_on, run_answered, answered_by, Advances}

left_after : (c : Calls) (r : Ending) → left_of (after_calls c r) ≡ left_of r
left_after c (done m n d) = refl
left_after c (failed k n d) = refl
left_after c (spent n d) = refl

left_then : (n : ℕ) (r : Ending) (f : Memory → ℕ → Ending) → left_of r ≤ n → ((m : Memory) (a : ℕ) → left_of (f m a) ≤ a) → left_of (and_then r f) ≤ n
left_then n (done m a c) f le next = rw left_after (let h = next m a in omega arith)
left_then n (failed k a c) f le next = le
left_then n (spent a c) f le next = le

-- the body of an open loop
abbrev body_of : Callee → List Instr → OpenLoop → Memory → ℕ → Ending
body_of callee list o = exec callee (first_tree (trees (drop o.body list)))

-- what follows an iteration of it
abbrev turn : Callee → List Instr → OpenLoop → Memory → ℕ → Ending
turn callee list o new n = charge o.len n λ n. if is_less o.len o.start new o.memory then turns_of (body_of callee list o) o.start o.len (suc n) new n else done o.memory n none

left_turn : (callee : Callee) (list : List Instr) (o : OpenLoop) (new : Memory) (a : ℕ) → left_of (turn callee list o new a) ≤ a
left_turn callee list o new a =
    let body = first_tree (trees (drop o.body list)) in
    left-charge callee o.len a (λ n. if is_less o.len o.start new o.memory then turns_of (exec callee body) o.start o.len (suc n) new n else done o.memory n none) λ n.
    by_test (is_less o.len o.start new o.memory) n (left-turns callee (exec callee body) o.start o.len (λ m n. left-exec callee body m n) (suc n) new n)
  where
    by_test : (t : Bool) (n : ℕ) → left_of (turns_of (body_of callee list o) o.start o.len (suc n) new n) ≤ n
        → left_of (if t then turns_of (body_of callee list o) o.start o.len (suc n) new n else done o.memory n none) ≤ n
    by_test true n h = h
    by_test false n h = omega arith

same_turns : (body1 body2 : Memory → ℕ → Ending) (c k most : ℕ) → ((m : Memory) (a : ℕ) → left_of (body1 m a) ≤ a) → ((m : Memory) (a : ℕ) → a ≤ most → body1 m a ≡ body2 m a)
    → (t : ℕ) (m : Memory) (a : ℕ) → a ≤ most → turns_of body1 c k t m a ≡ turns_of body2 c k t m a
same_turns body1 body2 c k most left bodies zero m a le = refl
same_turns body1 body2 c k most left bodies (suc t) m a le =
    let go1 = λ (new : Memory) (n : ℕ). if is_less k c new m then turns_of body1 c k t new n else done m n none in
    let go2 = λ (new : Memory) (n : ℕ). if is_less k c new m then turns_of body2 c k t new n else done m n none in
    same-then a (body1 m a) (λ new n. charge k n (go1 new)) (λ new n. charge k n (go2 new)) (left m a)
    (λ new n le'. same-charge k n (go1 new) (go2 new) λ n' e. ap (λ r. if is_less k c new m then r else done m n' none) (same_turns body1 body2 c k most left bodies t new n' (omega arith)))
    ∙ ap (λ r. and_then r (λ new n. charge k n (go2 new))) (bodies m a le)

-- callees that agree with fewer steps than these give the same rest of a run with at most so many
module _ (callee1 callee2 : Callee) (most : ℕ) (agree : (q : ℕ) (x : ℤ) (n : ℕ) → n < most → callee1 q x n ≡ callee2 q x n) where
  same_turn : (list : List Instr) (o : OpenLoop) (new : Memory) (a : ℕ) → a ≤ most → turn callee1 list o new a ≡ turn callee2 list o new a
  same_turn list o new a le =
      let body = first_tree (trees (drop o.body list)) in
      let go1 = λ (n : ℕ). if is_less o.len o.start new o.memory then turns_of (exec callee1 body) o.start o.len (suc n) new n else done o.memory n none in
      let go2 = λ (n : ℕ). if is_less o.len o.start new o.memory then turns_of (exec callee2 body) o.start o.len (suc n) new n else done o.memory n none in
      same-charge o.len a go1 go2 λ n e. ap (λ r. if is_less o.len o.start new o.memory then r else done o.memory n none)
      (same_turns (exec callee1 body) (exec callee2 body) o.start o.len most (λ m n. left-exec callee1 body m n) (λ m n le'. same-exec callee1 callee2 most agree body m n le') (suc n) new n (omega arith))

  same_finish : (list : List Instr) (ts : List Tree) (os : List OpenLoop) (r : Ending) → left_of r ≤ most → finish callee1 list ts os r ≡ finish callee2 list ts os r
  same_finish list ts [] r le = refl
  same_finish list ts (o ∷ os) r le =
      let turned = and_then r (turn callee1 list o) in
      let rest1 = exec callee1 (first_tree ts) in
      let rest2 = exec callee2 (first_tree ts) in
      let within : left_of turned ≤ most = left_then most r (turn callee1 list o) le (left_turn callee1 list o) in
      same_finish list (rest_of ts) os (and_then turned rest1) (left_then most turned rest1 within (left-exec callee1 (first_tree ts)))
      ∙ ap (finish callee2 list (rest_of ts) os)
      (same-then most turned rest1 rest2 within (λ m a le'. same-exec callee1 callee2 most agree (first_tree ts) m a le')
      ∙ ap (λ e. and_then e rest2) (same-then most r (turn callee1 list o) (turn callee2 list o) le (same_turn list o)))

  same_run : (st : MachineState) (n : ℕ) → n ≤ most → run_on callee1 st n ≡ run_on callee2 st n
  same_run st n le =
      let list = instrs st.program in
      let ts = trees (drop st.at list) in
      let h = left-exec callee1 (first_tree ts) (memory_of st.cells) n in
      same_finish list (rest_of ts) (loops_of st) (exec callee1 (first_tree ts) (memory_of st.cells) n) (omega arith)
      ∙ ap (finish callee2 list (rest_of ts) (loops_of st)) (same-exec callee1 callee2 most agree (first_tree ts) (memory_of st.cells) n le)

-- comes to the end of its steps at once, or to a fault where it is given n steps or more
abbrev answer : Bool → Outcome × Calls
answer true = (out 0, none)
answer false = (fault Missing 0, none)

less : (k n : ℕ) → k < n → nat_lt k n ≡ true
less k n lt = grind arith

pub call_costs : (st new : MachineState) (n left q : ℕ) (x : ℤ) → Advances st n (stop.Call q x) left new → left < n
call_costs st new n left q x adv = by_test (nat_lt left n) refl
  where
    by_test : (t : Bool) → nat_lt left n ≡ t → left < n
    by_test true e = grind arith
    by_test false e =
        let callee1 : Callee = λ r y k. answer true in
        let callee2 : Callee = λ r y k. answer (nat_lt k n) in
        let same = same_run callee1 callee2 n (λ r y k lt. ap answer (sym (less k n lt))) st n (omega arith) in
        let here : run_on callee2 st n ≡ failed Missing (left - 0) (call q x (fault Missing 0) none none) = adv callee2 ∙ ap (λ t. answered_by q x left (run_answered callee2 new) (answer t)) e in
        let clash : spent (left - 0) (call q x (out 0) none none) ≡ failed Missing (left - 0) (call q x (fault Missing 0) none none) = sym (adv callee1) ∙ same ∙ here in
        absurd cc
