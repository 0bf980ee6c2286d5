-- Two runs side by side: where the first is done, so is the second, with the same memory.
use Rattle.std.proofs.Common.{ℕ, zero, suc, ◌+◌, ◌-◌, ◌<◌, ◌≤◌, ◌≡◌, refl, sym, ap, subst, ◌∙◌, arith, ℤ, Bool, true, false, nat_lt, max}
use Rattle.std.specs.Prelude.{if◌then◌else◌}
use Rattle.std.specs.declared.option.Option.{Option}
use Rattle.std.specs.declared.option.Option.TheVariants.{Some, None}
use Rattle.std.specs.declared.result.Result.{Result}
use Rattle.std.specs.declared.result.Result.TheVariants.{Ok, Err}
use Rattle.checked_numbers.specs.declared.ops.NumFault.{NumFault}
use Rattle.checked_numbers.specs.Ops.{op_answer}
use Rattle.loda_syntax.specs.declared.instr.Verb.{Verb}
use Rattle.loda_syntax.specs.declared.instr.Instr.{Instr}
use Rattle.loda_syntax.specs.declared.instr.Instr.TheVariants.{Arith, Clear, LoopStart, LoopEnd, Call}
use Rattle.loda_syntax.specs.Trees.{Tree, end, step, loop}
pub use Rattle.loda_semantics.specs.Laws.{left_of}
use Rattle.loda_semantics.specs.Memory.{Memory, set_cell, clear_cells, address, source_value, is_less, memory_with}
use Rattle.loda_semantics.specs.Exec.{Outcome, value, fault, out, Calls, none, call, join, Ending, done, failed, spent, after_calls, and_then, charge, store_in, arithmetic, Callee, called, call_at, single, turns_of, exec, outcome_of, op_of}

-- each call made by the run itself is good
abbrev pub AllGood : (ℕ → ℤ → Calls → Type 0) → Calls → Type 0
AllGood Good none = Unit {0}
AllGood Good (call q x o inner rest) = Good q x inner × AllGood Good rest

pub good-left : (Good : ℕ → ℤ → Calls → Type 0) (c d : Calls) → AllGood Good (join c d) → AllGood Good c
good-left Good none d g = tt
good-left Good (call q x o inner rest) d g = (g.0, good-left Good rest d g.1)

pub good-right : (Good : ℕ → ℤ → Calls → Type 0) (c d : Calls) → AllGood Good (join c d) → AllGood Good d
good-right Good none d g = g
good-right Good (call q x o inner rest) d g = good-right Good rest d g.1

module _ (callee : Callee) where
  left-after : (c : Calls) (r : Ending) → left_of (after_calls c r) ≡ left_of r
  left-after c (done m n d) = refl
  left-after c (failed k n d) = refl
  left-after c (spent n d) = refl

  left-then : (n : ℕ) (r : Ending) (f : Memory → ℕ → Ending) → left_of r ≤ n → ((m : Memory) (n : ℕ) → left_of (f m n) ≤ n) → left_of (and_then r f) ≤ n
  left-then n (done m a c) f le next = rw left-after (let h = next m a in omega arith)
  left-then n (failed k a c) f le next = le
  left-then n (spent a c) f le next = le

  pub left-charge : (k n : ℕ) (f : ℕ → Ending) → ((n : ℕ) → left_of (f n) ≤ n) → left_of (charge k n f) ≤ n
  left-charge k n f next = by_test (nat_lt n k)
    where
      by_test : (t : Bool) → left_of (if t then spent n none else f (n - k)) ≤ n
      by_test true = omega arith
      by_test false = let h = next (n - k) in omega arith

  pub left-turns : (body : Memory → ℕ → Ending) (c k : ℕ) → ((m : Memory) (n : ℕ) → left_of (body m n) ≤ n) → (turns : ℕ) (m : Memory) (n : ℕ) → left_of (turns_of body c k turns m n) ≤ n
  left-turns body c k bodies zero m n = omega arith
  left-turns body c k bodies (suc turns) m n =
      left-then n (body m n) (λ new n. charge k n (λ n. if is_less k c new m then turns_of body c k turns new n else done m n none)) (bodies m n) λ new n. left-charge k n (λ n. if is_less k c new m then turns_of body c k turns new n else done m n none) λ n. by_test (is_less k c new m) new n (left-turns body c k bodies turns new n)
    where
      by_test : (t : Bool) (new : Memory) (n : ℕ) → left_of (turns_of body c k turns new n) ≤ n → left_of (if t then turns_of body c k turns new n else done m n none) ≤ n
      by_test true new n h = h
      by_test false new n h = omega arith

  left-arithmetic : (v : Verb) (m : Memory) (n : ℕ) (at : Option ℕ) (y : Option ℤ) → left_of (arithmetic v m n at y) ≤ n
  left-arithmetic v m n None y = omega arith
  left-arithmetic v m n (Some t) None = omega arith
  left-arithmetic v m n (Some t) (Some y) = stored (op_answer (op_of v) (m t) y)
    where
      stored : (z : Result ℤ NumFault) → left_of (store_in m n t z) ≤ n
      stored (Ok z) = omega arith
      stored (Err e) = omega arith

  left-called : (q : ℕ) (m : Memory) (n t : ℕ) (o : Outcome) (inner : Calls) → left_of (called q (m t) m n t o inner) ≤ n
  left-called q m n t (value v used) inner = omega arith
  left-called q m n t (fault k used) inner = omega arith
  left-called q m n t (out used) inner = omega arith

  left-call_at : (q : ℕ) (m : Memory) (n : ℕ) (at : Option ℕ) → left_of (call_at callee q m n at) ≤ n
  left-call_at q m n None = omega arith
  left-call_at q m n (Some t) = left-called q m n t (callee q (m t) n).0 (callee q (m t) n).1

  pub left-single : (i : Instr) (m : Memory) (n : ℕ) → left_of (single callee i m n) ≤ n
  left-single (Arith v t s) m n = left-charge 1 n (λ n. arithmetic v m n (address m t) (source_value m s)) λ n. left-arithmetic v m n (address m t) (source_value m s)
  left-single (Clear c k) m n = left-charge (max 1 k) n (λ n. done (clear_cells m c k) n none) λ n. omega arith
  left-single (Call t q) m n = left-charge 1 n (λ n. call_at callee q m n (address m t)) λ n. left-call_at q m n (address m t)
  left-single (LoopStart c k) m n = omega arith
  left-single LoopEnd m n = omega arith

  pub left-exec : (t : Tree) (m : Memory) (n : ℕ) → left_of (exec callee t m n) ≤ n
  left-exec end m n = omega arith
  left-exec (step i rest) m n = left-then n (single callee i m n) (exec callee rest) (left-single i m n) (λ m n. left-exec rest m n)
  left-exec (loop c k body rest) m n =
      let turns = λ (a : ℕ). turns_of (exec callee body) c k (suc a) m a in
      left-then n (charge 1 n turns) (exec callee rest) (left-charge 1 n turns λ a. left-turns (exec callee body) c k (λ m n. left-exec body m n) (suc a) m a) (λ m n. left-exec rest m n)

pub less_positive : (k c : ℕ) (new old : Memory) → is_less k c new old ≡ true → 0 < k
less_positive zero c new old e = absurd (let f : false ≡ true = e in cc)
less_positive (suc k) c new old e = omega arith

-- what a callee that comes to a value under the first does under the second
abbrev pub CalleesAgree : Callee → Callee → (ℕ → ℕ → Type 0) → (Calls → Calls → Type 0) → (ℕ → Type 0) → (ℕ → ℤ → Calls → Type 0) → Type 0
CalleesAgree callee1 callee2 R K Low Good =
    (q : ℕ) (x : ℤ) (a b : ℕ) (v : ℤ) (used1 : ℕ) (inner1 : Calls) → R (suc a) (suc b) → Low (a - used1) → Good q x inner1 → callee1 q x a ≡ (value v used1, inner1)
    → (used2 : ℕ) × (inner2 : Calls) × (callee2 q x b ≡ (value v used2, inner2)) × R (a - used1) (b - used2) × K (call q x (value v used1) inner1 none) (call q x (value v used2) inner2 none)

module _
    (callee1 callee2 : Callee)
    (R : ℕ → ℕ → Type 0)
    (K : Calls → Calls → Type 0)
    (Low : ℕ → Type 0)
    (Good : ℕ → ℤ → Calls → Type 0)
    (lower : (a a' : ℕ) → a' ≤ a → Low a' → Low a)
    (takes : (k a b : ℕ) → R a b → k ≤ a → Low (a - k) → (k ≤ b) × R (a - k) (b - k))
    (no_calls : K none none)
    (joins : (c1 c2 d1 d2 : Calls) → K c1 c2 → K d1 d2 → K (join c1 d1) (join c2 d2))
    (callees : CalleesAgree callee1 callee2 R K Low Good)
  where
    abbrev Sim : Ending → Ending → Type 0
    Sim (done m a c) r = Low a → AllGood Good c → (b : ℕ) × (d : Calls) × (r ≡ done m b d) × R a b × K c d
    Sim (failed k a c) r = Unit {0}
    Sim (spent a c) r = Unit {0}

    sim-done : (m : Memory) (a : ℕ) (c : Calls) (most : ℕ) (r2 r1' : Ending) (f2 : Memory → ℕ → Ending)
        → Sim (done m a c) r2 → left_of r2 ≤ most → left_of r1' ≤ a → ((b : ℕ) → b ≤ most → R a b → Sim r1' (f2 m b)) → Sim (after_calls c r1') (and_then r2 f2)
    sim-done m a c most r2 (done m' a' c') f2 h le2 le next = λ low g.
        let here = h (lower a a' le low) (good-left Good c c' g) in
        let within : here.0 ≤ most = (let e = ap left_of here.2 in omega (arith, e)) in
        let on = next here.0 within here.3 low (good-right Good c c' g) in
        (on.0, join here.1 on.1, ap (λ r. and_then r f2) here.2 ∙ ap (after_calls here.1) on.2, on.3, joins c here.1 c' on.1 here.4 on.4)
    sim-done m a c most r2 (failed k a' c') f2 h le2 le next = tt
    sim-done m a c most r2 (spent a' c') f2 h le2 le next = tt

    sim-then : (most : ℕ) (r1 r2 : Ending) (f1 f2 : Memory → ℕ → Ending) → Sim r1 r2 → left_of r2 ≤ most → ((m : Memory) (a : ℕ) → left_of (f1 m a) ≤ a)
        → ((m : Memory) (a b : ℕ) → b ≤ most → R a b → Sim (f1 m a) (f2 m b)) → Sim (and_then r1 f1) (and_then r2 f2)
    sim-then most (done m a c) r2 f1 f2 h le2 le next = sim-done m a c most r2 (f1 m a) f2 h le2 (le m a) (next m a)
    sim-then most (failed k a c) r2 f1 f2 h le2 le next = tt
    sim-then most (spent a c) r2 f1 f2 h le2 le next = tt

    sim-done_now : (m : Memory) (a b : ℕ) → R a b → Sim (done m a none) (done m b none)
    sim-done_now m a b r low g = (b, none, refl, r, no_calls)

    -- where the first has the steps left that the cost asks for, in the end
    sim-charged : (k a b : ℕ) (r1' : Ending) (f2 : ℕ → Ending) → R a b → k ≤ a → left_of r1' ≤ a - k → ((b' : ℕ) → b' + k ≡ b → R (a - k) b' → Sim r1' (f2 b')) → Sim r1' (charge k b f2)
    sim-charged k a b (done m a' c) f2 r ka le next = λ low g.
        let t = takes k a b r ka (lower (a - k) a' le low) in
        let kb : k ≤ b = t.0 in
        let lt : nat_lt b k ≡ false = grind arith in
        rw lt (next (b - k) (omega arith) t.1 low g)
    sim-charged k a b (failed e a' c) f2 r ka le next = tt
    sim-charged k a b (spent a' c) f2 r ka le next = tt

    sim-charge : (k a b : ℕ) (f1 f2 : ℕ → Ending) → ((a : ℕ) → left_of (f1 a) ≤ a) → R a b → ((a' b' : ℕ) → a' + k ≡ a → b' + k ≡ b → R a' b' → Sim (f1 a') (f2 b')) → Sim (charge k a f1) (charge k b f2)
    sim-charge k a b f1 f2 le r next = by_test (nat_lt a k) refl
      where
        by_test : (t : Bool) → nat_lt a k ≡ t → Sim (if t then spent a none else f1 (a - k)) (charge k b f2)
        by_test true e = tt
        by_test false e =
            let ka : k ≤ a = grind arith in
            sim-charged k a b (f1 (a - k)) f2 r ka (le (a - k)) (λ b'. next (a - k) b' (omega arith))

    sim-turns : (body1 body2 : Memory → ℕ → Ending) (c k : ℕ) → ((m : Memory) (a : ℕ) → left_of (body1 m a) ≤ a) → ((m : Memory) (b : ℕ) → left_of (body2 m b) ≤ b)
        → ((m : Memory) (a b : ℕ) → R a b → Sim (body1 m a) (body2 m b))
        → (t1 t2 : ℕ) (m : Memory) (a b : ℕ) → b < t2 → R a b → Sim (turns_of body1 c k t1 m a) (turns_of body2 c k t2 m b)
    sim-turns body1 body2 c k left1 left2 bodies zero t2 m a b lt r = tt
    sim-turns body1 body2 c k left1 left2 bodies (suc t1) zero m a b lt r = absurd (omega arith)
    sim-turns body1 body2 c k left1 left2 bodies (suc t1) (suc t2) m a b lt r =
        sim-then b (body1 m a) (body2 m b) (λ new n. charge k n (go1 new)) (λ new n. charge k n (go2 new)) (bodies m a b r) (left2 m b)
        (λ new n. left-charge callee1 k n (go1 new) λ n. by_left (is_less k c new m) new n)
        λ new a b1 within r.
        sim-charge k a b1 (go1 new) (go2 new) (λ n. by_left (is_less k c new m) new n) r λ a2 b2 cost1 cost r.
        by_test (is_less k c new m) new a2 b2 r (λ e. let pos : 0 < k = less_positive k c new m e in
        sim-turns body1 body2 c k left1 left2 bodies t1 t2 new a2 b2 (omega arith) r) refl
      where
        go1 : Memory → ℕ → Ending
        go1 new n = if is_less k c new m then turns_of body1 c k t1 new n else done m n none

        go2 : Memory → ℕ → Ending
        go2 new n = if is_less k c new m then turns_of body2 c k t2 new n else done m n none

        by_left : (t : Bool) (new : Memory) (n : ℕ) → left_of (if t then turns_of body1 c k t1 new n else done m n none) ≤ n
        by_left true new n = left-turns callee1 body1 c k left1 t1 new n
        by_left false new n = omega arith

        by_test : (t : Bool) (new : Memory) (a b : ℕ) → R a b → (is_less k c new m ≡ true → Sim (turns_of body1 c k t1 new a) (turns_of body2 c k t2 new b))
            → is_less k c new m ≡ t
            → Sim (if t then turns_of body1 c k t1 new a else done m a none) (if t then turns_of body2 c k t2 new b else done m b none)
        by_test true new a b r again e = again e
        by_test false new a b r again e = sim-done_now m a b r

    sim-arithmetic : (v : Verb) (m : Memory) (a b : ℕ) (at : Option ℕ) (y : Option ℤ) → R a b → Sim (arithmetic v m a at y) (arithmetic v m b at y)
    sim-arithmetic v m a b None y r = tt
    sim-arithmetic v m a b (Some t) None r = tt
    sim-arithmetic v m a b (Some t) (Some y) r = stored (op_answer (op_of v) (m t) y)
      where
        stored : (z : Result ℤ NumFault) → Sim (store_in m a t z) (store_in m b t z)
        stored (Ok z) = sim-done_now (set_cell m t z) a b r
        stored (Err e) = tt

    sim-called : (q : ℕ) (m : Memory) (a b t : ℕ) (o : Outcome) (inner : Calls) → callee1 q (m t) a ≡ (o, inner) → R (suc a) (suc b)
        → Sim (called q (m t) m a t o inner) (let ran = callee2 q (m t) b in called q (m t) m b t ran.0 ran.1)
    sim-called q m a b t (value v used) inner e r = λ low g.
        let h = callees q (m t) a b v used inner r low g.0 e in
        (b - h.0, call q (m t) (value v h.0) h.1 none, ap (λ (ran : Outcome × Calls). called q (m t) m b t ran.0 ran.1) h.2, h.3, h.4)
    sim-called q m a b t (fault k used) inner e r = tt
    sim-called q m a b t (out used) inner e r = tt

    sim-call_at : (q : ℕ) (m : Memory) (a b : ℕ) (at : Option ℕ) → R (suc a) (suc b) → Sim (call_at callee1 q m a at) (call_at callee2 q m b at)
    sim-call_at q m a b None r = tt
    sim-call_at q m a b (Some t) r = sim-called q m a b t (callee1 q (m t) a).0 (callee1 q (m t) a).1 refl r

    sim-single : (i : Instr) (m : Memory) (a b : ℕ) → R a b → Sim (single callee1 i m a) (single callee2 i m b)
    sim-single (Arith v t s) m a b r =
        sim-charge 1 a b (λ n. arithmetic v m n (address m t) (source_value m s)) (λ n. arithmetic v m n (address m t) (source_value m s))
        (λ n. left-arithmetic callee1 v m n (address m t) (source_value m s)) r λ a b e1 e r. sim-arithmetic v m a b (address m t) (source_value m s) r
    sim-single (Clear c k) m a b r =
        sim-charge (max 1 k) a b (λ n. done (clear_cells m c k) n none) (λ n. done (clear_cells m c k) n none) (λ n. omega arith) r λ a b e1 e r. sim-done_now (clear_cells m c k) a b r
    sim-single (Call t q) m a b r =
        sim-charge 1 a b (λ n. call_at callee1 q m n (address m t)) (λ n. call_at callee2 q m n (address m t))
        (λ n. left-call_at callee1 q m n (address m t)) r λ a1 b1 e1 e r1. sim-call_at q m a1 b1 (address m t) (let sa : suc a1 ≡ a = omega arith in let sb : suc b1 ≡ b = omega arith in subst (λ z. R z (suc b1)) (sym sa) (subst (R a) (sym sb) r))
    sim-single (LoopStart c k) m a b r = sim-done_now m a b r
    sim-single LoopEnd m a b r = sim-done_now m a b r

    pub sim-exec : (t : Tree) (m : Memory) (a b : ℕ) → R a b → Sim (exec callee1 t m a) (exec callee2 t m b)
    sim-exec end m a b r = sim-done_now m a b r
    sim-exec (step i rest) m a b r =
        sim-then b (single callee1 i m a) (single callee2 i m b) (exec callee1 rest) (exec callee2 rest) (sim-single i m a b r) (left-single callee2 i m b)
        (λ m n. left-exec callee1 rest m n) (λ m a b le r. sim-exec rest m a b r)
    sim-exec (loop c k body rest) m a b r =
        let f1 = λ (n : ℕ). turns_of (exec callee1 body) c k (suc n) m n in
        let f2 = λ (n : ℕ). turns_of (exec callee2 body) c k (suc n) m n in
        let le1 = λ (n : ℕ). left-turns callee1 (exec callee1 body) c k (λ m n. left-exec callee1 body m n) (suc n) m n in
        let le2 = λ (n : ℕ). left-turns callee2 (exec callee2 body) c k (λ m n. left-exec callee2 body m n) (suc n) m n in
        sim-then b (charge 1 a f1) (charge 1 b f2) (exec callee1 rest) (exec callee2 rest)
        (sim-charge 1 a b f1 f2 le1 r λ a1 b1 e1 e r.
        sim-turns (exec callee1 body) (exec callee2 body) c k (λ m n. left-exec callee1 body m n) (λ m n. left-exec callee2 body m n)
        (λ m a b r. sim-exec body m a b r) (suc a1) (suc b1) m a1 b1 (omega arith) r)
        (left-charge callee2 1 b f2 le2)
        (λ m n. left-exec callee1 rest m n) (λ m a b le r. sim-exec rest m a b r)

    pub sim-run : (t : Tree) (x : ℤ) (a b : ℕ) (v : ℤ) (used : ℕ) (c : Calls) → R a b → outcome_of a (exec callee1 t (memory_with x) a) ≡ (value v used, c) → Low (a - used) → AllGood Good c
        → (used2 : ℕ) × (d : Calls) × (outcome_of b (exec callee2 t (memory_with x) b) ≡ (value v used2, d)) × R (a - used) (b - used2) × (used ≤ a) × (used2 ≤ b) × K c d
    sim-run t x a b v used c r e low g = by_result (exec callee1 t (memory_with x) a) (left-exec callee1 t (memory_with x) a) (sim-exec t (memory_with x) a b r) e
      where
        by_result : (res : Ending) → left_of res ≤ a → Sim res (exec callee2 t (memory_with x) b) → outcome_of a res ≡ (value v used, c)
            → (used2 : ℕ) × (d : Calls) × (outcome_of b (exec callee2 t (memory_with x) b) ≡ (value v used2, d)) × R (a - used) (b - used2) × (used ≤ a) × (used2 ≤ b) × K c d
        by_result (done m n c') le h e =
            let first : value (m 0) (a - n) ≡ value v used = ap (λ (p : Outcome × Calls). p.0) e in
            let val : m 0 ≡ v = cc in
            let spent1 : a - n ≡ used = cc in
            let left : n ≡ a - used = omega arith in
            let same : c' ≡ c = ap (λ (p : Outcome × Calls). p.1) e in
            let on = h (subst Low (sym left) low) (subst (AllGood Good) (sym same) g) in
            let le2 : on.0 ≤ b = (let l = left-exec callee2 t (memory_with x) b in let q = ap left_of on.2 in omega (arith, l, q)) in
            let back : on.0 ≡ b - (b - on.0) = omega arith in
            (b - on.0, on.1, (ap (outcome_of b) on.2 ∙ ap (λ z. (value z (b - on.0), on.1)) val), subst (λ z. R z (b - (b - on.0))) left (subst (R n) back on.3), omega arith, omega arith, subst (λ z. K z on.1) same on.4)
        by_result (failed k n c') le h e = absurd (let x : fault k (a - n) ≡ value v used = ap (λ (p : Outcome × Calls). p.0) e in cc)
        by_result (spent n c') le h e = absurd (let x : out (a - n) ≡ value v used = ap (λ (p : Outcome × Calls). p.0) e in cc)

    -- the same of a tree
    pub sim-tree : (t : Tree) (m new : Memory) (a b left : ℕ) (c : Calls) → R a b → exec callee1 t m a ≡ done new left c → Low left → AllGood Good c
        → (left2 : ℕ) × (d : Calls) × (exec callee2 t m b ≡ done new left2 d) × R left left2 × K c d
    sim-tree t m new a b left c r e low g = by_result (exec callee1 t m a) (sim-exec t m a b r) e
      where
        by_result : (res : Ending) → Sim res (exec callee2 t m b) → res ≡ done new left c
            → (left2 : ℕ) × (d : Calls) × (exec callee2 t m b ≡ done new left2 d) × R left left2 × K c d
        by_result (done m' n c') h e =
            let memory : m' ≡ new = cc in
            let same : n ≡ left = cc in
            let made : c' ≡ c = cc in
            let on = h (subst Low (sym same) low) (subst (AllGood Good) (sym made) g) in
            (on.0, on.1, on.2 ∙ ap (λ z. done z on.0 on.1) memory, subst (λ z. R z on.0) same on.3, subst (λ z. K z on.1) made on.4)
        by_result (failed k n c') h e = absurd (cc)
        by_result (spent n c') h e = absurd (cc)
