-- Two runs side by side whose callees come to the same values: the same direct calls, and the same steps of their own.
use Rattle.std.proofs.Common.{ℕ, zero, suc, ◌+◌, ◌-◌, ◌<◌, ◌≤◌, ◌≡◌, refl, sym, ap, subst, ◌∙◌, arith, ℤ, Bool, true, false, nat_lt, max, List, ◌++◌}
use Rattle.std.specs.Prelude.{if◌then◌else◌}
use Rattle.std.specs.declared.option.Option.{Option}
use Rattle.std.specs.declared.option.Option.TheVariants.{Some, None}
use Rattle.std.specs.declared.result.Result.{Result}
use Rattle.std.specs.declared.result.Result.TheVariants.{Ok, Err}
use Rattle.checked_numbers.specs.declared.ops.NumFault.{NumFault}
use Rattle.checked_numbers.specs.Ops.{op_answer}
use Rattle.loda_syntax.specs.declared.instr.Verb.{Verb}
use Rattle.loda_syntax.specs.declared.instr.Instr.{Instr}
use Rattle.loda_syntax.specs.declared.instr.Instr.TheVariants.{Arith, Clear, LoopStart, LoopEnd, Call}
use Rattle.loda_syntax.specs.Trees.{Tree, end, step, loop}
use Rattle.loda_semantics.specs.declared.kinds.Pair.{Pair}
use Rattle.loda_semantics.specs.Laws.{left_of}
use Rattle.loda_semantics.specs.Memory.{Memory, set_cell, clear_cells, address, source_value, is_less, memory_with}
use Rattle.loda_semantics.specs.Exec.{Outcome, value, fault, out, Calls, none, call, join, Ending, done, failed, spent, after_calls, and_then, charge, store_in, arithmetic, Callee, called, call_at, single, turns_of, exec, outcome_of, op_of}
use Rattle.loda_semantics.proofs.Simulation.{AllGood, good-left, good-right, left-single, left-exec, left-turns, left-charge, less_positive}
use Rattle.seq_calls.specs.Frames.{direct, steps_below}
use Rattle.seq_calls.proofs.Joined.{direct_join, steps_join}

same_joined : (c1 c2 e1 e2 : Calls) → direct c2 ≡ direct c1 → direct e2 ≡ direct e1 → direct (join c2 e2) ≡ direct (join c1 e1)
same_joined c1 c2 e1 e2 h1 h2 =
    direct_join c2 e2 ∙ ap (λ (l : List Pair). l ++ direct e2) h1 ∙ ap (λ (l : List Pair). direct c1 ++ l) h2 ∙ sym (direct_join c1 e1)

-- From a and b steps to a' and b' by these calls: no fewer are left of the second, the direct calls are the same, and so are the
-- steps besides those of the callees. What the first's callees used, it used.
pub record Beside (a b a' b' : ℕ) (c d : Calls) : Type 0 where
  pub more : a' ≤ b'
  pub calls : direct d ≡ direct c
  pub own : (a + b') + steps_below d ≡ (b + a') + steps_below c
  pub within : a' + steps_below c ≤ a

beside_then : (a b a1 b1 a2 b2 : ℕ) (c1 d1 c2 d2 : Calls) → Beside a b a1 b1 c1 d1 → Beside a1 b1 a2 b2 c2 d2 → Beside a b a2 b2 (join c1 c2) (join d1 d2)
beside_then a b a1 b1 a2 b2 c1 d1 c2 d2 h k =
    let e1 = h.own in
    let e2 = k.own in
    let j1 = steps_join c1 c2 in
    let j2 = steps_join d1 d2 in
    record { more = k.more; calls = same_joined c1 d1 c2 d2 h.calls k.calls; own = omega (arith, e1, e2, j1, j2); within = (let w1 = h.within in let w2 = k.within in omega (arith, w1, w2, j1)) }

beside_shift : (k a b a0 b0 a' b' : ℕ) (c d : Calls) → a0 + k ≡ a → b0 + k ≡ b → Beside a0 b0 a' b' c d → Beside a b a' b' c d
beside_shift k a b a0 b0 a' b' c d ea eb h = let e = h.own in record { more = h.more; calls = h.calls; own = omega (arith, e, ea, eb); within = (let w = h.within in omega (arith, w, ea)) }

beside_here : (a b : ℕ) → a ≤ b → Beside a b a b none none
beside_here a b le = record { more = le; calls = refl; own = omega arith; within = omega arith }

beside_call : (a b u1 u2 q : ℕ) (x v : ℤ) (i1 i2 : Calls) → a ≤ b → u1 ≤ a → u2 ≤ u1 → Beside a b (a - u1) (b - u2) (call q x (value v u1) i1 none) (call q x (value v u2) i2 none)
beside_call a b u1 u2 q x v i1 i2 le l1 l2 = record { more = omega arith; calls = refl; own = omega arith; within = omega arith }

module _
    (callee1 callee2 : Callee)
    (Good : ℕ → ℤ → Calls → Type 0)
    (callees : (q : ℕ) (x : ℤ) (a b : ℕ) (v : ℤ) (u1 : ℕ) (i1 : Calls) → a ≤ b → Good q x i1 → callee1 q x a ≡ (value v u1, i1)
    → (u2 : ℕ) × (i2 : Calls) × (callee2 q x b ≡ (value v u2, i2)) × (u2 ≤ u1) × (u1 ≤ a))
  where
    -- from a and b steps: where the first is done, so is the second, beside it
    abbrev Sim : ℕ → ℕ → Ending → Ending → Type 0
    Sim a b (done m a' c) r = AllGood Good c → (b' : ℕ) × (d : Calls) × (r ≡ done m b' d) × Beside a b a' b' c d
    Sim a b (failed k a' c) r = Unit {0}
    Sim a b (spent a' c) r = Unit {0}

    sim_shift : (k a b a0 b0 : ℕ) (r1 r2 : Ending) → a0 + k ≡ a → b0 + k ≡ b → Sim a0 b0 r1 r2 → Sim a b r1 r2
    sim_shift k a b a0 b0 (done m a' c) r2 ea eb h = λ g. let on = h g in (on.0, on.1, on.2, beside_shift k a b a0 b0 a' on.0 c on.1 ea eb on.3)
    sim_shift k a b a0 b0 (failed e a' c) r2 ea eb h = tt
    sim_shift k a b a0 b0 (spent a' c) r2 ea eb h = tt

    sim_done : (a b : ℕ) (m : Memory) (a1 : ℕ) (c : Calls) (most : ℕ) (r2 r1' : Ending) (f2 : Memory → ℕ → Ending)
        → Sim a b (done m a1 c) r2 → left_of r2 ≤ most → ((b1 : ℕ) → b1 ≤ most → a1 ≤ b1 → Sim a1 b1 r1' (f2 m b1)) → Sim a b (after_calls c r1') (and_then r2 f2)
    sim_done a b m a1 c most r2 (done m' a2 c') f2 h le next = λ g.
        let here = h (good-left Good c c' g) in
        let within : here.0 ≤ most = (let e = ap left_of here.2 in omega (arith, e)) in
        let on = next here.0 within here.3.more (good-right Good c c' g) in
        (on.0, join here.1 on.1, ap (λ r. and_then r f2) here.2 ∙ ap (after_calls here.1) on.2, beside_then a b a1 here.0 a2 on.0 c here.1 c' on.1 here.3 on.3)
    sim_done a b m a1 c most r2 (failed k a2 c') f2 h le next = tt
    sim_done a b m a1 c most r2 (spent a2 c') f2 h le next = tt

    sim_then : (a b most : ℕ) (r1 r2 : Ending) (f1 f2 : Memory → ℕ → Ending) → Sim a b r1 r2 → left_of r2 ≤ most
        → ((m : Memory) (a b : ℕ) → b ≤ most → a ≤ b → Sim a b (f1 m a) (f2 m b)) → Sim a b (and_then r1 f1) (and_then r2 f2)
    sim_then a b most (done m a' c) r2 f1 f2 h le next = sim_done a b m a' c most r2 (f1 m a') f2 h le (next m a')
    sim_then a b most (failed k a' c) r2 f1 f2 h le next = tt
    sim_then a b most (spent a' c) r2 f1 f2 h le next = tt

    sim_here : (m : Memory) (a b : ℕ) → a ≤ b → Sim a b (done m a none) (done m b none)
    sim_here m a b le g = (b, none, refl, beside_here a b le)

    sim_charge : (k a b : ℕ) (f1 f2 : ℕ → Ending) → a ≤ b → ((a0 b0 : ℕ) → a0 + k ≡ a → b0 + k ≡ b → a0 ≤ b0 → Sim a0 b0 (f1 a0) (f2 b0)) → Sim a b (charge k a f1) (charge k b f2)
    sim_charge k a b f1 f2 le next = by_test (nat_lt a k) refl
      where
        by_test : (t : Bool) → nat_lt a k ≡ t → Sim a b (if t then spent a none else f1 (a - k)) (charge k b f2)
        by_test true e = tt
        by_test false e =
            let ka : k ≤ a = grind arith in
            let lt : nat_lt b k ≡ false = grind (arith, ka, le) in
            let ea : a - k + k ≡ a = omega (arith, ka) in
            let eb : b - k + k ≡ b = omega (arith, ka, le) in
            rw lt (sim_shift k a b (a - k) (b - k) (f1 (a - k)) (f2 (b - k)) ea eb (next (a - k) (b - k) ea eb (omega (arith, ka, le))))

    sim_turns : (body1 body2 : Memory → ℕ → Ending) (c k : ℕ) → ((m : Memory) (b : ℕ) → left_of (body2 m b) ≤ b) → ((m : Memory) (a b : ℕ) → a ≤ b → Sim a b (body1 m a) (body2 m b))
        → (t1 t2 : ℕ) (m : Memory) (a b : ℕ) → b < t2 → a ≤ b → Sim a b (turns_of body1 c k t1 m a) (turns_of body2 c k t2 m b)
    sim_turns body1 body2 c k left2 bodies zero t2 m a b lt le = tt
    sim_turns body1 body2 c k left2 bodies (suc t1) zero m a b lt le = absurd (omega arith)
    sim_turns body1 body2 c k left2 bodies (suc t1) (suc t2) m a b lt le =
        sim_then a b b (body1 m a) (body2 m b) (λ new n. charge k n (go1 new)) (λ new n. charge k n (go2 new)) (bodies m a b le) (left2 m b)
        λ new a1 b1 within le1.
        sim_charge k a1 b1 (go1 new) (go2 new) le1 λ a2 b2 cost1 cost le2.
        by_test (is_less k c new m) new a2 b2 le2 (λ e. let pos : 0 < k = less_positive k c new m e in sim_turns body1 body2 c k left2 bodies t1 t2 new a2 b2 (omega arith) le2) refl
      where
        go1 : Memory → ℕ → Ending
        go1 new n = if is_less k c new m then turns_of body1 c k t1 new n else done m n none

        go2 : Memory → ℕ → Ending
        go2 new n = if is_less k c new m then turns_of body2 c k t2 new n else done m n none

        by_test : (t : Bool) (new : Memory) (a b : ℕ) → a ≤ b → (is_less k c new m ≡ true → Sim a b (turns_of body1 c k t1 new a) (turns_of body2 c k t2 new b)) → is_less k c new m ≡ t
            → Sim a b (if t then turns_of body1 c k t1 new a else done m a none) (if t then turns_of body2 c k t2 new b else done m b none)
        by_test true new a b le again e = again e
        by_test false new a b le again e = sim_here m a b le

    sim_arithmetic : (v : Verb) (m : Memory) (a b : ℕ) (at : Option ℕ) (y : Option ℤ) → a ≤ b → Sim a b (arithmetic v m a at y) (arithmetic v m b at y)
    sim_arithmetic v m a b None y le = tt
    sim_arithmetic v m a b (Some t) None le = tt
    sim_arithmetic v m a b (Some t) (Some y) le = stored (op_answer (op_of v) (m t) y)
      where
        stored : (z : Result ℤ NumFault) → Sim a b (store_in m a t z) (store_in m b t z)
        stored (Ok z) = sim_here (set_cell m t z) a b le
        stored (Err e) = tt

    sim_called : (q : ℕ) (m : Memory) (a b t : ℕ) (o : Outcome) (inner : Calls) → callee1 q (m t) a ≡ (o, inner) → a ≤ b
        → Sim a b (called q (m t) m a t o inner) (let ran = callee2 q (m t) b in called q (m t) m b t ran.0 ran.1)
    sim_called q m a b t (value v used) inner e le = λ g.
        let h = callees q (m t) a b v used inner le g.0 e in
        (b - h.0, call q (m t) (value v h.0) h.1 none, ap (λ (ran : Outcome × Calls). called q (m t) m b t ran.0 ran.1) h.2, beside_call a b used h.0 q (m t) v inner h.1 le h.4 h.3)
    sim_called q m a b t (fault k used) inner e le = tt
    sim_called q m a b t (out used) inner e le = tt

    sim_call_at : (q : ℕ) (m : Memory) (a b : ℕ) (at : Option ℕ) → a ≤ b → Sim a b (call_at callee1 q m a at) (call_at callee2 q m b at)
    sim_call_at q m a b None le = tt
    sim_call_at q m a b (Some t) le = sim_called q m a b t (callee1 q (m t) a).0 (callee1 q (m t) a).1 refl le

    sim_single : (i : Instr) (m : Memory) (a b : ℕ) → a ≤ b → Sim a b (single callee1 i m a) (single callee2 i m b)
    sim_single (Arith v t s) m a b le =
        sim_charge 1 a b (λ n. arithmetic v m n (address m t) (source_value m s)) (λ n. arithmetic v m n (address m t) (source_value m s)) le
        λ a b e1 e le. sim_arithmetic v m a b (address m t) (source_value m s) le
    sim_single (Clear c k) m a b le =
        sim_charge (max 1 k) a b (λ n. done (clear_cells m c k) n none) (λ n. done (clear_cells m c k) n none) le λ a b e1 e le. sim_here (clear_cells m c k) a b le
    sim_single (Call t q) m a b le =
        sim_charge 1 a b (λ n. call_at callee1 q m n (address m t)) (λ n. call_at callee2 q m n (address m t)) le λ a b e1 e le. sim_call_at q m a b (address m t) le
    sim_single (LoopStart c k) m a b le = sim_here m a b le
    sim_single LoopEnd m a b le = sim_here m a b le

    sim_exec : (t : Tree) (m : Memory) (a b : ℕ) → a ≤ b → Sim a b (exec callee1 t m a) (exec callee2 t m b)
    sim_exec end m a b le = sim_here m a b le
    sim_exec (step i rest) m a b le =
        sim_then a b b (single callee1 i m a) (single callee2 i m b) (exec callee1 rest) (exec callee2 rest) (sim_single i m a b le) (left-single callee2 i m b)
        (λ m a b within le. sim_exec rest m a b le)
    sim_exec (loop c k body rest) m a b le =
        let f1 = λ (n : ℕ). turns_of (exec callee1 body) c k (suc n) m n in
        let f2 = λ (n : ℕ). turns_of (exec callee2 body) c k (suc n) m n in
        let le2 = λ (n : ℕ). left-turns callee2 (exec callee2 body) c k (λ m n. left-exec callee2 body m n) (suc n) m n in
        sim_then a b b (charge 1 a f1) (charge 1 b f2) (exec callee1 rest) (exec callee2 rest)
        (sim_charge 1 a b f1 f2 le λ a1 b1 e1 e le1.
        sim_turns (exec callee1 body) (exec callee2 body) c k (λ m n. left-exec callee2 body m n) (λ m a b le. sim_exec body m a b le) (suc a1) (suc b1) m a1 b1 (omega arith) le1)
        (left-charge callee2 1 b f2 le2)
        (λ m a b within le. sim_exec rest m a b le)

    -- the second run comes to the same value in no more steps, by the same direct calls and with the same steps of its own
    pub own_run : (t : Tree) (x : ℤ) (n : ℕ) (v : ℤ) (used : ℕ) (c : Calls) → outcome_of n (exec callee1 t (memory_with x) n) ≡ (value v used, c) → AllGood Good c
        → (used2 : ℕ) × (d : Calls) × (outcome_of n (exec callee2 t (memory_with x) n) ≡ (value v used2, d)) × (used2 ≤ used) × (direct d ≡ direct c) × (used2 - steps_below d ≡ used - steps_below c) × (steps_below c ≤ used)
    own_run t x n v used c e g = by_result (exec callee1 t (memory_with x) n) (left-exec callee1 t (memory_with x) n) (sim_exec t (memory_with x) n n (omega arith)) e
      where
        by_result : (res : Ending) → left_of res ≤ n → Sim n n res (exec callee2 t (memory_with x) n) → outcome_of n res ≡ (value v used, c)
            → (used2 : ℕ) × (d : Calls) × (outcome_of n (exec callee2 t (memory_with x) n) ≡ (value v used2, d)) × (used2 ≤ used) × (direct d ≡ direct c) × (used2 - steps_below d ≡ used - steps_below c) × (steps_below c ≤ used)
        by_result (done m a' c') le h e =
            let first : value (m 0) (n - a') ≡ value v used = ap (λ (p : Outcome × Calls). p.0) e in
            let val : m 0 ≡ v = cc in
            let took : n - a' ≡ used = cc in
            let same : c' ≡ c = ap (λ (p : Outcome × Calls). p.1) e in
            let on = h (subst (AllGood Good) (sym same) g) in
            let le2 : on.0 ≤ n = (let l = left-exec callee2 t (memory_with x) n in let q = ap left_of on.2 in omega (arith, l, q)) in
            let more = on.3.more in
            let own = on.3.own in
            let below : steps_below c' ≡ steps_below c = ap steps_below same in (
              n - on.0,
              on.1,
              ap (outcome_of n) on.2 ∙ ap (λ (z : ℤ). (value z (n - on.0), on.1)) val,
              omega (arith, took, more, le),
              on.3.calls ∙ ap direct same,
              omega (arith, took, le, le2, own, below),
              (let w = on.3.within in omega (arith, took, le, w, below)),
            )
        by_result (failed k a' c') le h e = absurd (let z : fault k (n - a') ≡ value v used = ap (λ (p : Outcome × Calls). p.0) e in cc)
        by_result (spent a' c') le h e = absurd (let z : out (n - a') ≡ value v used = ap (λ (p : Outcome × Calls). p.0) e in cc)
