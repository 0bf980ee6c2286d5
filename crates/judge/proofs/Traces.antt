-- What a run calls, at any depth, is reached by a call of its text.
use Rattle.std.proofs.Common.{ℕ, zero, suc, ◌-◌, ◌≡◌, refl, sym, ap, subst, ◌∙◌, arith, ℤ, pos, inl, inr, Bool, true, false, nat_lt, max, List, [], ◌∷◌, Contains}
use Rattle.std.specs.Prelude.{◌⊎◌, ◌↔◌, if◌then◌else◌, IsTrue, IfSome, IfNone}
use Rattle.std.specs.declared.option.Option.{Option}
use Rattle.std.specs.declared.option.Option.TheVariants.{Some, None}
use Rattle.std.specs.declared.result.Result.{Result}
use Rattle.std.specs.declared.result.Result.TheVariants.{Ok, Err}
use Rattle.std.specs.Option.{option_map, is_some}
use Rattle.checked_numbers.specs.declared.ops.NumFault.{NumFault}
use Rattle.checked_numbers.specs.Ops.{op_answer}
use Rattle.loda_syntax.specs.declared.instr.Verb.{Verb}
use Rattle.loda_syntax.specs.declared.instr.Instr.{Instr}
use Rattle.loda_syntax.specs.declared.instr.Instr.TheVariants.{Arith, Clear, LoopStart, LoopEnd, Call}
use Rattle.loda_syntax.specs.Programs.{Text, instrs}
use Rattle.loda_syntax.specs.Trees.{Tree, end, step, loop, first_tree, rest_of, trees, tree_of}
use Rattle.loda_semantics.specs.Memory.{Memory, memory_with, clear_cells, address, source_value, is_less}
use Rattle.loda_semantics.specs.Exec.{Outcome, value, fault, out, Calls, none, call, join, Ending, done, failed, spent, after_calls, and_then, charge, op_of, store_in, arithmetic, Callee, called, call_at, single, turns_of, exec, outcome_of, Library, run_deep}
use Rattle.program_store.specs.declared.published.Published.{Published}
use Rattle.program_store.specs.Store.{Store, published_at, programs_of}
use Rattle.program_store.specs.Graph.{called_by, calls_of, Reaches, CallsReach, FirstWith}
use Rattle.call_graph.specs.Closure.{ReachesByCall}
use Rattle.call_graph.proofs.Paths.{call_reach}
use Rattle.call_graph.proofs.Loops.{tells}
use Rattle.seq_calls.specs.Demand.{InTrace, ample}
use Rattle.judge.specs.declared.comparing.CheckedRun.{CheckedRun}
use Rattle.judge.specs.Changes.{Relies, MayRely}

-- ---- the names that stand in a tree

contains_first : (q : ℕ) (names : List ℕ) → Contains (q ∷ names) q
contains_first q names = (0, omega arith, refl)

contains_later : (q : ℕ) (names : List ℕ) (r : ℕ) → Contains names r → Contains (q ∷ names) r
contains_later q names r h = (suc h.0, let lt = h.1 in omega (arith, lt), h.2)

module _ (P : ℕ → Type 0) where
  -- the instruction calls no name without the property
  abbrev pub CallsOnly : Instr → Type 0
  CallsOnly (Call t r) = P r
  CallsOnly (Arith v t s) = Unit {0}
  CallsOnly (Clear c k) = Unit {0}
  CallsOnly (LoopStart c k) = Unit {0}
  CallsOnly LoopEnd = Unit {0}

  -- nor does any in the tree
  abbrev pub HasOnly : Tree → Type 0
  HasOnly end = Unit {0}
  HasOnly (step i rest) = CallsOnly i × HasOnly rest
  HasOnly (loop c k body rest) = HasOnly body × HasOnly rest

  -- nor in any of the trees
  abbrev HaveOnly : List Tree → Type 0
  HaveOnly [] = Unit {0}
  HaveOnly (t ∷ ts) = HasOnly t × HaveOnly ts

  first_has : (ts : List Tree) → HaveOnly ts → HasOnly (first_tree ts)
  first_has [] h = tt
  first_has (t ∷ ts) h = h.0

  rest_have : (ts : List Tree) → HaveOnly ts → HaveOnly (rest_of ts)
  rest_have [] h = tt
  rest_have (t ∷ ts) h = h.1

  -- what a tree calls stands in the list
  pub trees_have : (is : List Instr) → ((r : ℕ) → Contains (called_by is) r → P r) → HaveOnly (trees is)
  trees_have [] h = (tt, tt)
  trees_have (LoopStart c k ∷ is) h =
      let ts = trees_have is h in
      let rest = rest_have (trees is) ts in
      ((first_has (trees is) ts, first_has (rest_of (trees is)) rest), rest_have (rest_of (trees is)) rest)
  trees_have (LoopEnd ∷ is) h = (tt, trees_have is h)
  trees_have (Arith v t s ∷ is) h = let ts = trees_have is h in ((tt, first_has (trees is) ts), rest_have (trees is) ts)
  trees_have (Clear c k ∷ is) h = let ts = trees_have is h in ((tt, first_has (trees is) ts), rest_have (trees is) ts)
  trees_have (Call t q ∷ is) h =
      let ts = trees_have is (λ r there. h r (contains_later q (called_by is) r there)) in
      ((h q (contains_first q (called_by is)), first_has (trees is) ts), rest_have (trees is) ts)

  pub tree_has : (is : List Instr) → ((r : ℕ) → Contains (called_by is) r → P r) → HasOnly (tree_of is)
  tree_has is h = first_has (trees is) (trees_have is h)

-- ---- where a traced call of q at x leads

abbrev calls_in : Ending → Calls
calls_in (done m n c) = c
calls_in (failed k n c) = c
calls_in (spent n c) = c

module _ (q : ℕ) (x : ℤ) (Goal : Type 0) where
  -- where the call is among those made, the goal holds
  abbrev Leads : Ending → Type 0
  Leads r = InTrace q x (calls_in r) → Goal

  leads_join : (c d : Calls) → (InTrace q x c → Goal) → (InTrace q x d → Goal) → InTrace q x (join c d) → Goal
  leads_join none d h k t = k t
  leads_join (call r y o inner rest) d h k (inl e) = h (inl e)
  leads_join (call r y o inner rest) d h k (inr (inl t)) = h (inr (inl t))
  leads_join (call r y o inner rest) d h k (inr (inr t)) = leads_join rest d (λ u. h (inr (inr u))) k t

  leads_after : (c : Calls) (r : Ending) → (InTrace q x c → Goal) → Leads r → Leads (after_calls c r)
  leads_after c (done m n d) h k = leads_join c d h k
  leads_after c (failed e n d) h k = leads_join c d h k
  leads_after c (spent n d) h k = leads_join c d h k

  leads_then : (r : Ending) (f : Memory → ℕ → Ending) → Leads r → ((m : Memory) (n : ℕ) → Leads (f m n)) → Leads (and_then r f)
  leads_then (done m n c) f h next = leads_after c (f m n) h (next m n)
  leads_then (failed k n c) f h next = h
  leads_then (spent n c) f h next = h

  leads_charge : (k n : ℕ) (f : ℕ → Ending) → ((n : ℕ) → Leads (f n)) → Leads (charge k n f)
  leads_charge k n f next = by_test (nat_lt n k)
    where
      by_test : (t : Bool) → Leads (if t then spent n none else f (n - k))
      by_test true = λ t. absurd t
      by_test false = next (n - k)

  leads_turns : (body : Memory → ℕ → Ending) (c k : ℕ) → ((m : Memory) (n : ℕ) → Leads (body m n)) → (turns : ℕ) (m : Memory) (n : ℕ) → Leads (turns_of body c k turns m n)
  leads_turns body c k bodies zero m n = λ t. absurd t
  leads_turns body c k bodies (suc turns) m n =
      leads_then (body m n) (λ new n. charge k n (again new)) (bodies m n) λ new n. leads_charge k n (again new) λ n. by_test (is_less k c new m) new n (leads_turns body c k bodies turns new n)
    where
      again : Memory → ℕ → Ending
      again new n = if is_less k c new m then turns_of body c k turns new n else done m n none

      by_test : (t : Bool) (new : Memory) (n : ℕ) → Leads (turns_of body c k turns new n) → Leads (if t then turns_of body c k turns new n else done m n none)
      by_test true new n h = h
      by_test false new n h = λ t. absurd t

  leads_arithmetic : (v : Verb) (m : Memory) (n : ℕ) (at : Option ℕ) (y : Option ℤ) → Leads (arithmetic v m n at y)
  leads_arithmetic v m n None y = λ t. absurd t
  leads_arithmetic v m n (Some a) None = λ t. absurd t
  leads_arithmetic v m n (Some a) (Some y) = stored (op_answer (op_of v) (m a) y)
    where
      stored : (z : Result ℤ NumFault) → Leads (store_in m n a z)
      stored (Ok z) = λ t. absurd t
      stored (Err e) = λ t. absurd t

  leads_call : (r : ℕ) (y : ℤ) (o : Outcome) (inner : Calls) → ((q ≡ r) ⊎ InTrace q x inner → Goal) → InTrace q x (call r y o inner none) → Goal
  leads_call r y o inner h (inl e) = h (inl e.0)
  leads_call r y o inner h (inr (inl t)) = h (inr t)
  leads_call r y o inner h (inr (inr t)) = absurd t

  leads_called : (r : ℕ) (m : Memory) (n a : ℕ) (o : Outcome) (inner : Calls) → ((q ≡ r) ⊎ InTrace q x inner → Goal) → Leads (called r (m a) m n a o inner)
  leads_called r m n a (value v used) inner h = leads_call r (m a) (value v used) inner h
  leads_called r m n a (fault k used) inner h = leads_call r (m a) (fault k used) inner h
  leads_called r m n a (out used) inner h = leads_call r (m a) (out used) inner h

  -- The callee's runs of names with the property lead to the goal, and so does each run of a tree that calls such names alone.
  module _ (callee : Callee) (P : ℕ → Type 0) (leads : (r : ℕ) → P r → (y : ℤ) (n : ℕ) → (q ≡ r) ⊎ InTrace q x (callee r y n).1 → Goal) where
    leads_call_at : (r : ℕ) → P r → (m : Memory) (n : ℕ) (at : Option ℕ) → Leads (call_at callee r m n at)
    leads_call_at r stands m n None = λ t. absurd t
    leads_call_at r stands m n (Some a) = leads_called r m n a (callee r (m a) n).0 (callee r (m a) n).1 (leads r stands (m a) n)

    leads_single : (i : Instr) → CallsOnly P i → (m : Memory) (n : ℕ) → Leads (single callee i m n)
    leads_single (Arith v t s) h m n =
        leads_charge 1 n (λ n. arithmetic v m n (address m t) (source_value m s)) λ n. leads_arithmetic v m n (address m t) (source_value m s)
    leads_single (Clear c k) h m n = leads_charge (max 1 k) n (λ n. done (clear_cells m c k) n none) λ n t. absurd t
    leads_single (Call t r) h m n = leads_charge 1 n (λ n. call_at callee r m n (address m t)) λ n. leads_call_at r h m n (address m t)
    leads_single (LoopStart c k) h m n = λ t. absurd t
    leads_single LoopEnd h m n = λ t. absurd t

    pub leads_exec : (t : Tree) → HasOnly P t → (m : Memory) (n : ℕ) → Leads (exec callee t m n)
    leads_exec end h m n = λ t. absurd t
    leads_exec (step i rest) h m n = leads_then (single callee i m n) (exec callee rest) (leads_single i h.0 m n) λ m n. leads_exec rest h.1 m n
    leads_exec (loop c k body rest) h m n =
        let turns = λ (a : ℕ). turns_of (exec callee body) c k (suc a) m a in
        leads_then (charge 1 n turns) (exec callee rest)
        (leads_charge 1 n turns λ a. leads_turns (exec callee body) c k (λ m n. leads_exec body h.0 m n) (suc a) m a)
        λ m n. leads_exec rest h.1 m n

  pub leads_outcome : (n : ℕ) (r : Ending) → Leads r → InTrace q x (outcome_of n r).1 → Goal
  leads_outcome n (done m left c) h = h
  leads_outcome n (failed k left c) h = h
  leads_outcome n (spent left c) h = h

-- ---- runs of programs

module _ (lib : Library) (q : ℕ) (x : ℤ) where
  -- what holds of the runs of callees holds of the caller's
  deeper : (depth : ℕ) → ((p : Text) (y : ℤ) (n : ℕ) → InTrace q x (run_deep lib depth (Some p) y n).1 → CallsReach lib p q)
      → (p : Text) (y : ℤ) (n : ℕ) → InTrace q x (run_deep lib (suc depth) (Some p) y n).1 → CallsReach lib p q
  deeper depth callees p y n =
      leads_outcome q x (CallsReach lib p q) n (exec callee (tree_of (instrs p)) (memory_with y) n)
      (leads_exec q x (CallsReach lib p q) callee (Contains (calls_of p)) leads (tree_of (instrs p)) (tree_has (Contains (calls_of p)) (instrs p) (λ r there. there)) (memory_with y) n)
    where
      callee : Callee
      callee r y k = run_deep lib depth (lib r) y k

      by_program : (r : ℕ) (y : ℤ) (n : ℕ) (o : Option Text) → lib r ≡ o → InTrace q x (run_deep lib depth o y n).1 → Reaches lib r q
      by_program r y n None e t = absurd t
      by_program r y n (Some called) e t = call_reach lib r called e q (callees called y n t)

      leads : (r : ℕ) → Contains (calls_of p) r → (y : ℤ) (n : ℕ) → (q ≡ r) ⊎ InTrace q x (callee r y n).1 → CallsReach lib p q
      leads r there y n (inl e) = (r, there, (0, sym e))
      leads r there y n (inr t) = (r, there, by_program r y n (lib r) refl t)

  -- What a run calls, at any depth, is reached by a call of its text.
  pub traced_reach : (depth : ℕ) (p : Text) (y : ℤ) (n : ℕ) → InTrace q x (run_deep lib depth (Some p) y n).1 → CallsReach lib p q
  traced_reach zero p y n t = absurd t
  traced_reach (suc depth) p y n t = deeper depth (λ p y n t. traced_reach depth p y n t) p y n t

-- A checked run that relies on an argument of q is one of a name that may.
pub relies_may : (s : Store) (q : ℕ) (r : CheckedRun) (x : ℤ) → Relies s q r x → MayRely s q r.name
relies_may s q r x (inl d) =
    let there : programs_of s r.name ≡ Some d.0.program = ap (option_map (λ (e : Published). e.program)) d.1 in
    let trace = subst (λ (o : Option Text). InTrace q x (run_deep (programs_of s) (suc ample) o (pos r.index) ample).1) there d.3 in
    inr (d.0.program, there, traced_reach (programs_of s) q x (suc ample) d.0.program (pos r.index) ample trace)
relies_may s q r x (inr e) = inl e.0

-- The runs of another published name may rely on q exactly where some name in its program's text reaches q.
pub may_tells : (s : Store) (lib : Library) → lib ≡ programs_of s → (q name : ℕ) (e : Published) → Some e ≡ published_at s name → (name ≡ q → ⊥) → (first : Option ℕ)
    → IfSome first (FirstWith (λ n. Reaches lib n q) (calls_of e.program))
    → IfNone first ((n : ℕ) → Contains (calls_of e.program) n → Reaches lib n q → ⊥)
    → (b : Bool) → b ≡ is_some first → IsTrue b ↔ MayRely s q name
may_tells s lib same q name e there other first found missing b is =
    let has : lib name ≡ Some e.program = ap (λ (l : Library). l name) same ∙ ap (option_map (λ (e : Published). e.program)) (sym there) in
    let told = tells lib name q e.program has first found missing in
    let here : IsTrue b ↔ ReachesByCall (programs_of s) name q =
    subst (λ (l : Library). IsTrue b ↔ ReachesByCall l name q) same (subst (λ (z : Bool). IsTrue z ↔ ReachesByCall lib name q) (sym is) told) in
    (λ t. inr (here.0 t), by_case here.1)
  where
    by_case : (ReachesByCall (programs_of s) name q → IsTrue b) → MayRely s q name → IsTrue b
    by_case back (inl e) = absurd (other e)
    by_case back (inr h) = back h
