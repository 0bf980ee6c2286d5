-- The steps of a run, as equations on the rest of it.
use Rattle.std.proofs.Common.{ℕ, suc, ◌-◌, ◌<◌, ◌≤◌, ◌≡◌, refl, sym, ap, ◌∙◌, arith, ℤ, Bool, true, false, nat_lt, List, [], ◌∷◌, drop}
use Rattle.std.specs.Prelude.{if◌then◌else◌}
use Rattle.loda_syntax.specs.declared.instr.Instr.{Instr}
use Rattle.loda_syntax.specs.declared.instr.Instr.TheVariants.{Arith, Clear, LoopStart, LoopEnd, Call}
use Rattle.loda_syntax.specs.Trees.{Tree, step, trees, first_tree, rest_of}
use Rattle.loda_semantics.specs.declared.kinds.FaultKind.{FaultKind}
use Rattle.loda_semantics.specs.Memory.{Memory, set_cell, is_less}
use Rattle.loda_semantics.specs.Exec.{Outcome, value, fault, out, Calls, none, call, join, Ending, done, failed, spent, after_calls, and_then, charge, Callee, called, single, turns_of, exec}
use Rattle.loda_semantics.proofs.Simulation.{left-exec}
use Rattle.loda_semantics.proofs.Turns.{turns-is}
use Rattle.lex_loops.specs.State.{OpenLoop, finish, run_from, answered_by}

pub after-none : (r : Ending) → after_calls none r ≡ r
after-none (done m n c) = refl
after-none (failed k n c) = refl
after-none (spent n c) = refl

join-assoc : (a b c : Calls) → join (join a b) c ≡ join a (join b c)
join-assoc none b c = refl
join-assoc (call q x o inner rest) b c = ap (call q x o inner) (join-assoc rest b c)

after-after : (a b : Calls) (r : Ending) → after_calls a (after_calls b r) ≡ after_calls (join a b) r
after-after a b (done m n c) = ap (done m n) (sym (join-assoc a b c))
after-after a b (failed k n c) = ap (failed k n) (sym (join-assoc a b c))
after-after a b (spent n c) = ap (spent n) (sym (join-assoc a b c))

then-after : (c : Calls) (r : Ending) (f : Memory → ℕ → Ending) → and_then (after_calls c r) f ≡ after_calls c (and_then r f)
then-after c (done m n d) f = sym (after-after c d (f m n))
then-after c (failed k n d) f = refl
then-after c (spent n d) f = refl

-- a cost that there is, and one that there isn't
pub charge-is : (k n : ℕ) (f : ℕ → Ending) → k ≤ n → charge k n f ≡ f (n - k)
charge-is k n f le = by_test (nat_lt n k) refl
  where
    by_test : (t : Bool) → nat_lt n k ≡ t → ◌≡◌ {A = Ending} (if t then spent n none else f (n - k)) (f (n - k))
    by_test true e = absurd (let h : n < k = grind arith in omega arith)
    by_test false e = refl

pub charge-spent : (k n : ℕ) (f : ℕ → Ending) → n < k → charge k n f ≡ spent n none
charge-spent k n f lt = by_test (nat_lt n k) refl
  where
    by_test : (t : Bool) → nat_lt n k ≡ t → ◌≡◌ {A = Ending} (if t then spent n none else f (n - k)) (spent n none)
    by_test true e = refl
    by_test false e = absurd (let h : k ≤ n = grind arith in omega arith)

-- instructions that are neither end of a loop
abbrev pub IsSingle : Instr → Type 0
IsSingle (Arith v t s) = Unit {0}
IsSingle (Clear c k) = Unit {0}
IsSingle (Call t q) = Unit {0}
IsSingle (LoopStart c k) = ⊥
IsSingle LoopEnd = ⊥

pub trees-single : (i : Instr) (is : List Instr) → IsSingle i → trees (i ∷ is) ≡ step i (first_tree (trees is)) ∷ rest_of (trees is)
trees-single (Arith v t s) is h = refl
trees-single (Clear c k) is h = refl
trees-single (Call t q) is h = refl
trees-single (LoopStart c k) is h = absurd h
trees-single LoopEnd is h = absurd h

module _ (callee : Callee) (list : List Instr) where
  pub finish-spent : (ts : List Tree) (os : List OpenLoop) (n : ℕ) (c : Calls) → finish callee list ts os (spent n c) ≡ spent n c
  finish-spent ts [] n c = refl
  finish-spent ts (o ∷ os) n c = finish-spent (rest_of ts) os n c

  pub finish-failed : (ts : List Tree) (os : List OpenLoop) (k : FaultKind) (n : ℕ) (c : Calls) → finish callee list ts os (failed k n c) ≡ failed k n c
  finish-failed ts [] k n c = refl
  finish-failed ts (o ∷ os) k n c = finish-failed (rest_of ts) os k n c

  -- calls made before the rest are made before all of it
  pub finish-after : (ts : List Tree) (os : List OpenLoop) (c : Calls) (r : Ending) → finish callee list ts os (after_calls c r) ≡ after_calls c (finish callee list ts os r)
  finish-after ts [] c r = refl
  finish-after ts (o ∷ os) c r =
      let body = exec callee (first_tree (trees (drop o.body list))) in
      let turn = λ (new : Memory) (n : ℕ). charge o.len n (λ n. if is_less o.len o.start new o.memory then turns_of body o.start o.len (suc n) new n else done o.memory n none) in
      let next = exec callee (first_tree ts) in
      ap (λ z. finish callee list (rest_of ts) os (and_then z next)) (then-after c r turn)
      ∙ ap (finish callee list (rest_of ts) os) (then-after c (and_then r turn) next)
      ∙ finish-after (rest_of ts) os c (and_then (and_then r turn) next)

  -- a cost that is charged before the rest is charged before all of it
  finish-charge : (ts : List Tree) (os : List OpenLoop) (k n : ℕ) (f : ℕ → Ending) (next : Memory → ℕ → Ending)
      → finish callee list ts os (and_then (charge k n f) next) ≡ charge k n (λ n. finish callee list ts os (and_then (f n) next))
  finish-charge ts os k n f next = by_test (nat_lt n k)
    where
      by_test : (b : Bool) → ◌≡◌ {A = Ending} (finish callee list ts os (and_then (if b then spent n none else f (n - k)) next)) (if b then spent n none else finish callee list ts os (and_then (f (n - k)) next))
      by_test true = finish-spent ts os n none
      by_test false = refl

  -- what follows the instruction before a place
  abbrev rest_from : ℕ → List OpenLoop → Ending → Ending
  rest_from at os r = let ts = trees (drop at list) in finish callee list (rest_of ts) os (and_then r (exec callee (first_tree ts)))

  -- a single instruction runs, and then the rest
  pub run-single : (at : ℕ) (i : Instr) (os : List OpenLoop) (m : Memory) (n : ℕ) → drop at list ≡ i ∷ drop (suc at) list → IsSingle i
      → run_from callee list at os m n ≡ rest_from (suc at) os (single callee i m n)
  run-single at i os m n here h =
      ap (λ z. finish callee list (rest_of z) os (exec callee (first_tree z) m n)) (ap trees here ∙ trees-single i (drop (suc at) list) h)

  rest-done : (at : ℕ) (os : List OpenLoop) (m : Memory) (n : ℕ) → rest_from at os (done m n none) ≡ run_from callee list at os m n
  rest-done at os m n = ap (finish callee list (rest_of (trees (drop at list))) os) (after-none (exec callee (first_tree (trees (drop at list))) m n))

  -- a call that the callee answers, and then the rest
  rest-called : (at : ℕ) (os : List OpenLoop) (q : ℕ) (x : ℤ) (m : Memory) (n a : ℕ) (o : Outcome) (inner : Calls)
      → rest_from at os (called q x m n a o inner) ≡ answered_by q x n (λ v n. run_from callee list at os (set_cell m a v) n) (o, inner)
  rest-called at os q x m n a (value v used) inner =
      let ts = trees (drop at list) in
      finish-after (rest_of ts) os (call q x (value v used) inner none) (exec callee (first_tree ts) (set_cell m a v) (n - used))
  rest-called at os q x m n a (fault k used) inner = finish-failed (rest_of (trees (drop at list))) os k (n - used) (call q x (fault k used) inner none)
  rest-called at os q x m n a (out used) inner = finish-spent (rest_of (trees (drop at list))) os (n - used) (call q x (out used) inner none)

  pub goes-on : (at : ℕ) (i : Instr) (os : List OpenLoop) (m m' : Memory) (n n' : ℕ) → drop at list ≡ i ∷ drop (suc at) list → IsSingle i
      → single callee i m n ≡ done m' n' none → run_from callee list at os m n ≡ run_from callee list (suc at) os m' n'
  goes-on at i os m m' n n' here h is = run-single at i os m n here h ∙ ap (rest_from (suc at) os) is ∙ rest-done (suc at) os m' n'

  pub fails : (at : ℕ) (i : Instr) (os : List OpenLoop) (m : Memory) (n n' : ℕ) (k : FaultKind) → drop at list ≡ i ∷ drop (suc at) list → IsSingle i
      → single callee i m n ≡ failed k n' none → run_from callee list at os m n ≡ failed k n' none
  fails at i os m n n' k here h is = run-single at i os m n here h ∙ ap (rest_from (suc at) os) is ∙ finish-failed (rest_of (trees (drop (suc at) list))) os k n' none

  pub is-spent : (at : ℕ) (i : Instr) (os : List OpenLoop) (m : Memory) (n n' : ℕ) → drop at list ≡ i ∷ drop (suc at) list → IsSingle i
      → single callee i m n ≡ spent n' none → run_from callee list at os m n ≡ spent n' none
  is-spent at i os m n n' here h is = run-single at i os m n here h ∙ ap (rest_from (suc at) os) is ∙ finish-spent (rest_of (trees (drop (suc at) list))) os n' none

  pub calls : (at : ℕ) (i : Instr) (os : List OpenLoop) (m m' : Memory) (n n' q : ℕ) (x : ℤ) (a : ℕ) → drop at list ≡ i ∷ drop (suc at) list → IsSingle i
      → single callee i m n ≡ (let ran = callee q x n' in called q x m' n' a ran.0 ran.1)
      → run_from callee list at os m n ≡ answered_by q x n' (λ v n. run_from callee list (suc at) os (set_cell m' a v) n) (callee q x n')
  calls at i os m m' n n' q x a here h is =
      run-single at i os m n here h ∙ ap (rest_from (suc at) os) is ∙ rest-called (suc at) os q x m' n' a (callee q x n').0 (callee q x n').1

  -- At the start of a loop a step is charged, and the loop is open.
  pub at_start : (at c k : ℕ) (os : List OpenLoop) (m : Memory) (n : ℕ) → drop at list ≡ LoopStart c k ∷ drop (suc at) list
      → run_from callee list at os m n ≡ charge 1 n (λ n. run_from callee list (suc at) (record { body = suc at; start = c; len = k; memory = m } ∷ os) m n)
  at_start at c k os m n here =
      let ts = trees (drop (suc at) list) in
      let body = exec callee (first_tree ts) in
      ap (λ is. finish callee list (rest_of (trees is)) os (exec callee (first_tree (trees is)) m n)) here
      ∙ finish-charge (rest_of (rest_of ts)) os 1 n (λ n. turns_of body c k (suc n) m n) (exec callee (first_tree (rest_of ts)))
      ∙ ap (charge 1 n) (λ i n. finish callee list (rest_of (rest_of ts)) os (and_then (turns-is body (λ m n. left-exec callee (first_tree ts) m n) c k m n i) (exec callee (first_tree (rest_of ts)))))

  -- At the end of a loop the region is charged. Where it is less the loop begins anew, else its memory comes back and the
  -- run goes on after it.
  pub at_end : (at : ℕ) (o : OpenLoop) (os : List OpenLoop) (m : Memory) (n : ℕ) → drop at list ≡ LoopEnd ∷ drop (suc at) list
      → rest_of (trees (drop o.body list)) ≡ trees (drop (suc at) list)
      → run_from callee list at (o ∷ os) m n
      ≡ charge o.len n (λ n. if is_less o.len o.start m o.memory
      then run_from callee list o.body (record o { memory = m } ∷ os) m n
      else run_from callee list (suc at) os o.memory n)
  at_end at o os m n here fits =
      let ts = trees (drop (suc at) list) in
      let tree = first_tree (trees (drop o.body list)) in
      let body = exec callee tree in
      let turn = λ (n : ℕ). if is_less o.len o.start m o.memory then turns_of body o.start o.len (suc n) m n else done o.memory n none in
      ap (λ is. finish callee list (rest_of (trees is)) (o ∷ os) (exec callee (first_tree (trees is)) m n)) here
      ∙ ap (λ r. finish callee list (rest_of ts) os (and_then r (exec callee (first_tree ts)))) (after-none (charge o.len n turn))
      ∙ finish-charge (rest_of ts) os o.len n turn (exec callee (first_tree ts))
      ∙ ap (charge o.len n) (λ i n. by_test (is_less o.len o.start m o.memory) n i)
    where
      by_test : (b : Bool) (n : ℕ) → ◌≡◌ {A = Ending}
          (finish callee list (rest_of (trees (drop (suc at) list))) os (and_then (if b then turns_of (exec callee (first_tree (trees (drop o.body list)))) o.start o.len (suc n) m n else done o.memory n none) (exec callee (first_tree (trees (drop (suc at) list))))))
          (if b then run_from callee list o.body (record o { memory = m } ∷ os) m n else run_from callee list (suc at) os o.memory n)
      by_test true n =
          ap (λ r. finish callee list (rest_of (trees (drop (suc at) list))) os (and_then r (exec callee (first_tree (trees (drop (suc at) list))))))
          (turns-is (exec callee (first_tree (trees (drop o.body list)))) (λ m n. left-exec callee (first_tree (trees (drop o.body list))) m n) o.start o.len m n)
          ∙ ap (λ ts. finish callee list ts (record o { memory = m } ∷ os) (exec callee (first_tree (trees (drop o.body list))) m n)) (sym fits)
      by_test false n = ap (finish callee list (rest_of (trees (drop (suc at) list))) os) (after-none (exec callee (first_tree (trees (drop (suc at) list))) o.memory n))
