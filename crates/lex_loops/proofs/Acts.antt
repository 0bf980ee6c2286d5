-- What each instruction does to a run, from what its function does to the cells, the log and the marks.
use Rattle.std.proofs.Common.{ℕ, suc, ◌+◌, ◌-◌, ◌<◌, ◌≤◌, ◌≡◌, refl, sym, ap, subst, ◌∙◌, arith, ℤ, Bool, true, false, List, [], ◌∷◌, ◌++◌, drop, take, length, get_or, reverse}
use Rattle.std.specs.Prelude.{if◌then◌else◌, ◌==◌, not, max, IsTrue}
use Rattle.std.specs.declared.option.Option.{Option}
use Rattle.std.specs.declared.option.Option.TheVariants.{Some, None}
use Rattle.std.proofs.lemmas.List.{drop_all, length-take-le, take-append-drop, length-append, length-reverse, reverse-append, reverse-reverse, get_or-take}
use Rattle.std.proofs.lemmas.Grind.{reverse_onto}
use Rattle.loda_syntax.specs.declared.instr.Instr.{Instr}
use Rattle.loda_syntax.specs.declared.instr.Instr.TheVariants.{Arith, Clear, LoopStart, LoopEnd, Call}
use Rattle.loda_syntax.specs.declared.instr.Verb.{Verb}
use Rattle.loda_syntax.specs.declared.instr.Operand.{Operand}
use Rattle.loda_syntax.specs.WellFormed.{IsBalanced}
use Rattle.loda_syntax.specs.Trees.{Tree, trees, rest_of}
use Rattle.loda_semantics.specs.declared.kinds.FaultKind.{FaultKind}
use Rattle.loda_semantics.specs.declared.kinds.FaultKind.TheVariants.{BadCell}
use Rattle.loda_semantics.specs.Memory.{Memory, set_cell, clear_cells, address, source_value, is_less}
use Rattle.loda_semantics.specs.Exec.{none, Ending, done, charge, arithmetic, Callee, called, call_at, single}
use Rattle.lex_loops.specs.declared.cells.Written.{Written}
use Rattle.lex_loops.specs.declared.marks.Mark.{Mark}
use Rattle.lex_loops.specs.declared.progress.Progress.{Progress}
use Rattle.lex_loops.specs.declared.stop.Stop.{Stop}
use Rattle.lex_loops.specs.declared.stop.Stop.TheVariants as stop
use Rattle.lex_loops.specs.Memories.{memory_of, before, IsWithin, Shortens, Replaces, ending_of}
use Rattle.lex_loops.specs.State.{open_loop, loops_of_marks, run_from, answered_by, cost_of}
use Rattle.lex_loops.specs.Steps.{memory_in, loops_in, run_in, IsMark, AreLoopMarks, IsUnderWay, HasRoom, Does, StepsTo, KeepsOn, IsAt, Acts, HasTaken, marked_anew, Serves, HasLogged}
use Rattle.lex_loops.proofs.Memories.{before-replaces}
use Rattle.lex_loops.proofs.Runs.{IsSingle, trees-single, goes-on, fails, is-spent, calls, charge-is, charge-spent, at_start, at_end}
use Rattle.loda_syntax.specs.declared.instr.TheConstants.{MEMORY_CELLS}

-- the open loops stay what they are as the log grows
pub same-loops : (list : List Instr) (after : List Tree) (top : ℕ) (marks : List Mark) (log log' : List Written) (m m' : Memory)
    → AreLoopMarks list after top marks → top ≤ length log → (0 < length marks → Replaces log m log' m') → loops_of_marks log' m' marks ≡ loops_of_marks log m marks
same-loops list after top [] log log' m m' h le r = refl
same-loops list after top (mark ∷ marks) log log' m m' h le r =
    let grown : Replaces log m log' m' = r (omega arith) in
    let k : mark.logged ≤ length log = (let l = h.0.logged in omega (arith, l)) in
    ap (λ (z : Memory). record { body = mark.body; start = mark.start; len = mark.len; memory = z } ∷ loops_of_marks log' m' marks) (before-replaces log log' m m' mark.logged grown k)
    ∙ ap (λ os. open_loop log m mark ∷ os) (same-loops list (rest_of after) mark.logged marks log log' m m' h.1 k (λ _. grown))

pub marks-more : (list : List Instr) (after : List Tree) (top top' : ℕ) (marks : List Mark) → (0 < length marks → top ≤ top') → AreLoopMarks list after top marks → AreLoopMarks list after top' marks
marks-more list after top top' [] le h = tt
marks-more list after top top' (mark ∷ marks) le h =
    let within : top ≤ top' = le (omega arith) in
    (record { follows = h.0.follows; balanced = h.0.balanced; logged = (let l = h.0.logged in omega (arith, l)); some = h.0.some; region = h.0.region }, h.1)

pub log-grows : (log log' : List Written) (m m' : Memory) → Replaces log m log' m' → length log ≤ length log'
log-grows log log' m m' r = let e = ap length r.log in omega (arith, e, length-append log r.writes)

balanced-single : (i : Instr) (d : ℕ) (is : List Instr) → IsSingle i → IsBalanced d (i ∷ is) → IsBalanced d is
balanced-single (Arith v t s) d is h b = b
balanced-single (Clear c k) d is h b = b
balanced-single (Call t q) d is h b = b
balanced-single (LoopStart c k) d is h b = absurd h
balanced-single LoopEnd d is h b = absurd h

-- room for the answer, at a call
abbrev pub RoomAt : Option Stop → Progress → Type 0
RoomAt None run = Unit {0}
RoomAt (Some (stop.Done v)) run = Unit {0}
RoomAt (Some (stop.Call q x)) run = HasRoom run
RoomAt (Some (stop.Fault k)) run = Unit {0}
RoomAt (Some stop.Spent) run = Unit {0}

-- the run went past one instruction, in the same loops
pub record Passes (old new : Progress) : Type 0 where
  pub at : new.at ≡ suc old.at
  pub marks : new.marks.items ≡ old.marks.items
  pub replaces : 0 < length old.marks.items → Replaces old.cells.log.items (memory_in old) new.cells.log.items (memory_in new)
  pub within : IsWithin (length old.cells.values.items) old.cells.log.items → IsWithin (length new.cells.values.items) new.cells.log.items

module _ (i : Instr) (old new : Progress) (h : IsSingle i) (p : Passes old new) (list : List Instr) (here : IsAt list old.at i) (under : IsUnderWay list old) where
  replaced : 0 < length (reverse old.marks.items) → Replaces old.cells.log.items (memory_in old) new.cells.log.items (memory_in new)
  replaced lt = p.replaces (let e = length-reverse old.marks.items in omega (arith, e))

  loops : loops_in new ≡ loops_in old
  loops =
      ap (λ ms. loops_of_marks new.cells.log.items (memory_in new) (reverse ms)) p.marks
      ∙ same-loops list (rest_of (trees (drop old.at list))) (length old.cells.log.items) (reverse old.marks.items) old.cells.log.items new.cells.log.items (memory_in old) (memory_in new) under.marks (omega arith) replaced

  steps : (n left : ℕ) (s : Option Stop) → Does (λ callee. single callee i (memory_in old) n) s left (memory_in new) new.target → StepsTo list old n s left new
  steps n left None does = λ callee.
      goes-on callee list old.at i (loops_in old) (memory_in old) (memory_in new) n left here h (does callee)
      ∙ ap (λ os. run_from callee list (suc old.at) os (memory_in new) left) (sym loops) ∙ ap (λ a. run_from callee list a (loops_in new) (memory_in new) left) (sym p.at)
  steps n left (Some (stop.Done v)) does = absurd does
  steps n left (Some (stop.Call q x)) does = λ callee.
      calls callee list old.at i (loops_in old) (memory_in old) (memory_in new) n left q x new.target here h (does callee)
      ∙ ap (λ os. answered_by q x left (λ v n. run_from callee list (suc old.at) os (set_cell (memory_in new) new.target v) n) (callee q x left)) (sym loops)
      ∙ ap (λ a. answered_by q x left (λ v n. run_from callee list a (loops_in new) (set_cell (memory_in new) new.target v) n) (callee q x left)) (sym p.at)
  steps n left (Some (stop.Fault k)) does = λ callee. fails callee list old.at i (loops_in old) (memory_in old) n left k here h (does callee)
  steps n left (Some stop.Spent) does = λ callee. is-spent callee list old.at i (loops_in old) (memory_in old) n left here h (does callee)

  under_way : IsUnderWay list new
  under_way = record {
    balanced =
        subst (λ a. IsBalanced (length new.marks.items) (drop a list)) (sym p.at)
        (balanced-single i (length new.marks.items) (drop (suc old.at) list) h
        (subst (IsBalanced (length new.marks.items)) here (subst (λ ms. IsBalanced (length ms) (drop old.at list)) (sym p.marks) under.balanced)));
    marks =
        subst (λ a. AreLoopMarks list (rest_of (trees (drop a list))) (length new.cells.log.items) (reverse new.marks.items)) (sym p.at)
        (subst (λ ms. AreLoopMarks list (rest_of (trees (drop (suc old.at) list))) (length new.cells.log.items) (reverse ms)) (sym p.marks)
        (marks-more list (rest_of (trees (drop (suc old.at) list))) (length old.cells.log.items) (length new.cells.log.items) (reverse old.marks.items)
        (λ lt. log-grows old.cells.log.items new.cells.log.items (memory_in old) (memory_in new) (replaced lt))
        (subst (λ ts. AreLoopMarks list (rest_of ts) (length old.cells.log.items) (reverse old.marks.items)) (ap trees here ∙ trees-single i (drop (suc old.at) list) h) under.marks)));
    within = p.within under.within;
  }

keeps-on : (list : List Instr) (s : Option Stop) (run : Progress) → IsUnderWay list run → RoomAt s run → KeepsOn list s run
keeps-on list None run u r = u
keeps-on list (Some (stop.Done v)) run u r = tt
keeps-on list (Some (stop.Call q x)) run u r = (u, r)
keeps-on list (Some (stop.Fault k)) run u r = tt
keeps-on list (Some stop.Spent) run u r = tt

pub acts-single : (i : Instr) (old new : Progress) (n left : ℕ) (s : Option Stop) → IsSingle i → Passes old new
    → Does (λ callee. single callee i (memory_in old) n) s left (memory_in new) new.target → RoomAt s new → Acts i old n s left new
acts-single i old new n left s h p does room = λ list here under.
    (steps i old new h p list here under n left s does, keeps-on list s new (under_way i old new h p list here under) room)

-- an instruction whose cost is greater than what is left
pub acts-spent : (i : Instr) (old new : Progress) (n : ℕ) → IsSingle i → n < cost_of i → Acts i old n (Some stop.Spent) n new
acts-spent (Arith v t s) old new n h lt = λ list here under. (
  (λ callee. is-spent callee list old.at (Arith v t s) (loops_in old) (memory_in old) n n here tt
      (charge-spent 1 n (λ n. arithmetic v (memory_in old) n (address (memory_in old) t) (source_value (memory_in old) s)) lt)),
  tt,
)
acts-spent (Clear c k) old new n h lt = λ list here under. (
  (λ callee. is-spent callee list old.at (Clear c k) (loops_in old) (memory_in old) n n here tt
      (charge-spent (max 1 k) n (λ n. done (clear_cells (memory_in old) c k) n none) lt)),
  tt,
)
acts-spent (Call t q) old new n h lt = λ list here under. (
  (λ callee. is-spent callee list old.at (Call t q) (loops_in old) (memory_in old) n n here tt
      (charge-spent 1 n (λ n. call_at callee q (memory_in old) n (address (memory_in old) t)) lt)),
  tt,
)
acts-spent (LoopStart c k) old new n h lt = absurd h
acts-spent LoopEnd old new n h lt = absurd h

-- why a run stops at an instruction that fails, or not
abbrev pub stop_of : Option FaultKind → Option Stop
stop_of None = None
stop_of (Some k) = Some (stop.Fault k)

pub acts-arithmetic : (v : Verb) (t s : Operand) (old new : Progress) (n left : ℕ) (f : Option FaultKind) → left + 1 ≡ n → Passes old new
    → ((n : ℕ) → arithmetic v (memory_in old) n (address (memory_in old) t) (source_value (memory_in old) s) ≡ ending_of f (memory_in new) n)
    → Acts (Arith v t s) old n (stop_of f) left new
acts-arithmetic v t s old new n left None sum p does = acts-single (Arith v t s) old new n left None tt p
    (λ callee. charge-is 1 n (λ n. arithmetic v (memory_in old) n (address (memory_in old) t) (source_value (memory_in old) s)) (omega arith)
    ∙ (let e : n - 1 ≡ left = omega arith in ap (λ n. arithmetic v (memory_in old) n (address (memory_in old) t) (source_value (memory_in old) s)) e) ∙ does left) tt
acts-arithmetic v t s old new n left (Some k) sum p does = acts-single (Arith v t s) old new n left (Some (stop.Fault k)) tt p
    (λ callee. charge-is 1 n (λ n. arithmetic v (memory_in old) n (address (memory_in old) t) (source_value (memory_in old) s)) (omega arith)
    ∙ (let e : n - 1 ≡ left = omega arith in ap (λ n. arithmetic v (memory_in old) n (address (memory_in old) t) (source_value (memory_in old) s)) e) ∙ does left) tt

pub acts-clear : (c k : ℕ) (old new : Progress) (n left : ℕ) → left + max 1 k ≡ n → Passes old new → memory_in new ≡ clear_cells (memory_in old) c k → Acts (Clear c k) old n None left new
acts-clear c k old new n left sum p memory = acts-single (Clear c k) old new n left None tt p
    (λ callee. charge-is (max 1 k) n (λ n. done (clear_cells (memory_in old) c k) n none) (omega arith)
    ∙ (let e : n - max 1 k ≡ left = omega arith in ap (λ n. done (clear_cells (memory_in old) c k) n none) e) ∙ ap (λ m. done m left none) (sym memory)) tt

pub acts-call : (t : Operand) (q : ℕ) (x : ℤ) (old new : Progress) (n left : ℕ) → left + 1 ≡ n → Passes old new → address (memory_in old) t ≡ Some new.target
    → memory_in new ≡ memory_in old → x ≡ memory_in new new.target → HasRoom new → Acts (Call t q) old n (Some (stop.Call q x)) left new
acts-call t q x old new n left sum p found memory arg room = acts-single (Call t q) old new n left (Some (stop.Call q x)) tt p
    (λ callee. charge-is 1 n (λ n. call_at callee q (memory_in old) n (address (memory_in old) t)) (omega arith)
    ∙ (let e : n - 1 ≡ left = omega arith in ap (λ n. call_at callee q (memory_in old) n (address (memory_in old) t)) e)
    ∙ ap (call_at callee q (memory_in old) left) found
    ∙ ap (λ (m : Memory). let ran = callee q (m new.target) left in called q (m new.target) m left new.target ran.0 ran.1) (sym memory)
    ∙ ap (λ y. let ran = callee q y left in called q y (memory_in new) left new.target ran.0 ran.1) (sym arg)) room

pub acts-bad-call : (t : Operand) (q : ℕ) (old new : Progress) (n left : ℕ) → left + 1 ≡ n → address (memory_in old) t ≡ None → Acts (Call t q) old n (Some (stop.Fault BadCell)) left new
acts-bad-call t q old new n left sum lost = λ list here under. (
  (λ callee. fails callee list old.at (Call t q) (loops_in old) (memory_in old) n left BadCell here tt
      (charge-is 1 n (λ n. call_at callee q (memory_in old) n (address (memory_in old) t)) (omega arith)
      ∙ (let e : n - 1 ≡ left = omega arith in ap (λ n. call_at callee q (memory_in old) n (address (memory_in old) t)) e)
      ∙ ap (call_at callee q (memory_in old) left) lost)),
  tt,
)

-- whether a loop is open, as a test says it
pub logged-if : (b : Bool) (n : ℕ) → b ≡ (n == 0) → 0 < n → IsTrue (not b)
logged-if true n e lt = absurd (let h : n ≡ 0 = grind arith in omega arith)
logged-if false n e lt = refl

-- the start of a loop, that is charged or not
pub acts-open : (start len : ℕ) (old new : Progress) (n left : ℕ) → left + 1 ≡ n → new.at ≡ suc old.at → 1 ≤ len → start + len ≤ MEMORY_CELLS
    → new.cells.values.items ≡ old.cells.values.items → new.cells.log.items ≡ old.cells.log.items
    → new.marks.items ≡ old.marks.items ++ record { body = suc old.at; start = start; len = len; logged = length old.cells.log.items } ∷ []
    → Acts (LoopStart start len) old n None left new
acts-open start len old new n left sum at some region values log marks = λ list here under.
    let mark : Mark = record { body = suc old.at; start = start; len = len; logged = length old.cells.log.items } in
    let turned : reverse new.marks.items ≡ mark ∷ reverse old.marks.items = ap reverse marks ∙ reverse-append old.marks.items (mark ∷ []) in
    let opened : loops_in new ≡ record { body = suc old.at; start = start; len = len; memory = memory_in old } ∷ loops_in old =
    ap (loops_of_marks new.cells.log.items (memory_in new)) turned
    ∙ ap (λ l. loops_of_marks l (memory_in new) (mark ∷ reverse old.marks.items)) log
    ∙ ap (λ vs. loops_of_marks old.cells.log.items (memory_of vs) (mark ∷ reverse old.marks.items)) values
    ∙ ap (λ ws. record { body = suc old.at; start = start; len = len; memory = before ws (memory_in old) } ∷ loops_in old) (drop_all (length old.cells.log.items) old.cells.log.items (omega arith)) in (
      (λ callee.
          at_start callee list old.at start len (loops_in old) (memory_in old) n here
          ∙ charge-is 1 n (λ n. run_from callee list (suc old.at) (record { body = suc old.at; start = start; len = len; memory = memory_in old } ∷ loops_in old) (memory_in old) n) (omega arith)
          ∙ ap (run_from callee list (suc old.at) (record { body = suc old.at; start = start; len = len; memory = memory_in old } ∷ loops_in old) (memory_in old)) (let e : n - 1 ≡ left = omega arith in e)
          ∙ ap (λ os. run_from callee list (suc old.at) os (memory_in old) left) (sym opened)
          ∙ ap (λ vs. run_from callee list (suc old.at) (loops_in new) (memory_of vs) left) (sym values)
          ∙ ap (λ a. run_from callee list a (loops_in new) (memory_in new) left) (sym at)),
      record {
        balanced = subst (λ a. IsBalanced (length new.marks.items) (drop a list)) (sym at)
            (subst (λ d. IsBalanced d (drop (suc old.at) list)) (sym (deeper mark)) (subst (IsBalanced (length old.marks.items)) here under.balanced));
        marks = subst (λ a. AreLoopMarks list (rest_of (trees (drop a list))) (length new.cells.log.items) (reverse new.marks.items)) (sym at)
            (subst (λ l. AreLoopMarks list (rest_of (trees (drop (suc old.at) list))) (length l) (reverse new.marks.items)) (sym log)
            (subst (AreLoopMarks list (rest_of (trees (drop (suc old.at) list))) (length old.cells.log.items)) (sym turned) (
              record {
                follows = refl;
                balanced = subst (λ d. IsBalanced (suc d) (drop (suc old.at) list)) (sym (length-reverse old.marks.items)) (subst (IsBalanced (length old.marks.items)) here under.balanced);
                logged = omega arith;
                some = some;
                region = region;
              },
              subst (λ ts. AreLoopMarks list ts (length old.cells.log.items) (reverse old.marks.items)) (ap (λ is. rest_of (trees is)) here) under.marks,
            )));
        within = subst (λ vs. IsWithin (length vs) new.cells.log.items) (sym values) (subst (IsWithin (length old.cells.values.items)) (sym log) under.within);
      },
    )
  where
    deeper : (mark : Mark) → length new.marks.items ≡ suc (length old.marks.items)
    deeper mark = let e = ap length marks in omega (arith, e, length-append old.marks.items (record { body = suc old.at; start = start; len = len; logged = length old.cells.log.items } ∷ []))

pub acts-open-spent : (start len : ℕ) (old new : Progress) (n : ℕ) → n ≡ 0 → Acts (LoopStart start len) old n (Some stop.Spent) n new
acts-open-spent start len old new n none_left = λ list here under. (
  (λ callee.
      at_start callee list old.at start len (loops_in old) (memory_in old) n here
      ∙ charge-spent 1 n (λ n. run_from callee list (suc old.at) (record { body = suc old.at; start = start; len = len; memory = memory_in old } ∷ loops_in old) (memory_in old) n) (omega arith)),
  tt,
)

-- the end of a loop: the innermost mark, and what follows it
record Inside (list : List Instr) (old : Progress) (mark : Mark) (outer : List Mark) : Type 0 where
  loops : loops_in old ≡ open_loop old.cells.log.items (memory_in old) mark ∷ loops_of_marks old.cells.log.items (memory_in old) (reverse outer)
  follows : rest_of (trees (drop mark.body list)) ≡ trees (drop (suc old.at) list)
  is : IsMark list (trees (drop (suc old.at) list)) (length old.cells.log.items) (length (reverse outer)) mark
  outside : AreLoopMarks list (rest_of (trees (drop (suc old.at) list))) mark.logged (reverse outer)
  balanced : IsBalanced (length outer) (drop (suc old.at) list)

inside : (list : List Instr) (old : Progress) (mark : Mark) (outer : List Mark) → old.marks.items ≡ outer ++ mark ∷ [] → IsAt list old.at LoopEnd → IsUnderWay list old → Inside list old mark outer
inside list old mark outer marks here under =
    let turned : reverse old.marks.items ≡ mark ∷ reverse outer = ap reverse marks ∙ reverse-append outer (mark ∷ []) in
    let ones : AreLoopMarks list (trees (drop (suc old.at) list)) (length old.cells.log.items) (mark ∷ reverse outer) =
    subst (AreLoopMarks list (trees (drop (suc old.at) list)) (length old.cells.log.items)) turned
    (subst (λ is. AreLoopMarks list (rest_of (trees is)) (length old.cells.log.items) (reverse old.marks.items)) here under.marks) in
    let deep : length old.marks.items ≡ suc (length outer) = (let e = ap length marks in omega (arith, e, length-append outer (mark ∷ []))) in
    record {
      loops = ap (loops_of_marks old.cells.log.items (memory_in old)) turned;
      follows = ones.0.follows;
      is = ones.0;
      outside = ones.1;
      balanced = subst (λ d. IsBalanced d (LoopEnd ∷ drop (suc old.at) list)) deep (subst (IsBalanced (length old.marks.items)) here under.balanced);
    }

-- what the end of a loop asks of its mark
pub mark-in-range : (list : List Instr) (old : Progress) (mark : Mark) (outer : List Mark) → old.marks.items ≡ outer ++ mark ∷ [] → IsAt list old.at LoopEnd → IsUnderWay list old
    → (1 ≤ mark.len) × (mark.start + mark.len ≤ MEMORY_CELLS) × (mark.logged ≤ length old.cells.log.items)
mark-in-range list old mark outer marks here under = let m = (inside list old mark outer marks here under).is in (m.some, m.region, m.logged)

-- and of the marks outside
pub outside-logged : (list : List Instr) (old : Progress) (mark : Mark) (outer : List Mark) → old.marks.items ≡ outer ++ mark ∷ [] → IsAt list old.at LoopEnd → IsUnderWay list old → HasLogged outer old.cells.log.items
outside-logged list old mark outer marks here under = λ os o is.
    let i = inside list old mark outer marks here under in
    let turned : reverse outer ≡ o ∷ reverse os = ap reverse is ∙ reverse-append os (o ∷ []) in
    let ones : AreLoopMarks list (rest_of (trees (drop (suc old.at) list))) mark.logged (o ∷ reverse os) = subst (AreLoopMarks list (rest_of (trees (drop (suc old.at) list))) mark.logged) turned i.outside in
    let a = ones.0.logged in
    let b = i.is.logged in
    omega (arith, a, b)

-- at the end of a loop there is one
pub some-open : (list : List Instr) (old : Progress) → old.marks.items ≡ [] → IsAt list old.at LoopEnd → IsUnderWay list old → ⊥
some-open list old none_open here under =
    subst (λ d. IsBalanced d (LoopEnd ∷ drop (suc old.at) list)) (ap length none_open) (subst (IsBalanced (length old.marks.items)) here under.balanced)

-- the rest of a run once the end of a loop is charged
abbrev ended : Callee → List Instr → Progress → Mark → List Mark → ℕ → Ending
ended callee list old mark outer n =
    if is_less mark.len mark.start (memory_in old) (before (drop mark.logged old.cells.log.items) (memory_in old))
    then run_from callee list mark.body (record { body = mark.body; start = mark.start; len = mark.len; memory = memory_in old } ∷ loops_of_marks old.cells.log.items (memory_in old) (reverse outer)) (memory_in old) n
    else run_from callee list (suc old.at) (loops_of_marks old.cells.log.items (memory_in old) (reverse outer)) (before (drop mark.logged old.cells.log.items) (memory_in old)) n

at_end_in : (list : List Instr) (old : Progress) (mark : Mark) (outer : List Mark) (n : ℕ) → Inside list old mark outer → IsAt list old.at LoopEnd → (callee : Callee)
    → run_in callee list old n ≡ charge mark.len n (ended callee list old mark outer)
at_end_in list old mark outer n i here callee =
    ap (λ os. run_from callee list old.at os (memory_in old) n) i.loops
    ∙ at_end callee list old.at (open_loop old.cells.log.items (memory_in old) mark) (loops_of_marks old.cells.log.items (memory_in old) (reverse outer)) (memory_in old) n here i.follows

pub acts-close-spent : (old new : Progress) (mark : Mark) (outer : List Mark) (n : ℕ) → old.marks.items ≡ outer ++ mark ∷ [] → n < mark.len → Acts LoopEnd old n (Some stop.Spent) n new
acts-close-spent old new mark outer n marks lt = λ list here under.
    ((λ callee. at_end_in list old mark outer n (inside list old mark outer marks here under) here callee ∙ charge-spent mark.len n (ended callee list old mark outer) lt), tt)

-- the loops outside stay what they are in a log that serves them
loops-shortened : (list : List Instr) (after : List Tree) (len : ℕ) (marks : List Mark) (log log' : List Written) (m : Memory) → AreLoopMarks list after len marks → Shortens len log log' → loops_of_marks log' m marks ≡ loops_of_marks log m marks
loops-shortened list after len [] log log' m h s = refl
loops-shortened list after len (mark ∷ marks) log log' m h s =
    let at : Shortens mark.logged log log' = record {
      long = (let a = h.0.logged in let b = s.long in omega (arith, a, b));
      same = λ k m le. s.same k m (let a = h.0.logged in omega (arith, a, le));
    } in
    ap (λ (z : Memory). record { body = mark.body; start = mark.start; len = mark.len; memory = z } ∷ loops_of_marks log' m marks) (s.same mark.logged m h.0.logged)
    ∙ ap (λ os. open_loop log m mark ∷ os) (loops-shortened list (rest_of after) mark.logged marks log log' m h.1 at)

-- the last mark is the first of the marks turned round
last-first : (outer : List Mark) (mark : Mark) (marks : List Mark) → reverse outer ≡ mark ∷ marks → outer ≡ reverse marks ++ mark ∷ []
last-first outer mark marks e = sym (reverse-reverse outer) ∙ ap (λ (ms : List Mark). reverse ms) e ∙ reverse_onto marks mark []

outside-again : (list : List Instr) (after : List Tree) (len : ℕ) (outer marks : List Mark) (log log' : List Written) (m : Memory) → reverse outer ≡ marks → AreLoopMarks list after len marks → Serves outer log log'
    → loops_of_marks log' m marks ≡ loops_of_marks log m marks
outside-again list after len outer [] log log' m is h s = refl
outside-again list after len outer (mark ∷ marks) log log' m is h s =
    loops-shortened list after mark.logged (mark ∷ marks) log log' m
    (record { follows = h.0.follows; balanced = h.0.balanced; logged = omega arith; some = h.0.some; region = h.0.region }, h.1) (s (reverse marks) mark (last-first outer mark marks is))

-- the marks outside stay of use
marks-again : (list : List Instr) (after : List Tree) (outer marks : List Mark) (k : ℕ) (log log' : List Written) → reverse outer ≡ marks → Serves outer log log' → AreLoopMarks list after k marks → AreLoopMarks list after (length log') marks
marks-again list after outer [] k log log' is s h = tt
marks-again list after outer (mark ∷ marks) k log log' is s h =
    (record { follows = h.0.follows; balanced = h.0.balanced; logged = (s (reverse marks) mark (last-first outer mark marks is)).long; some = h.0.some; region = h.0.region }, h.1)

pub acts-again : (old new : Progress) (mark : Mark) (outer : List Mark) (n left : ℕ) → old.marks.items ≡ outer ++ mark ∷ [] → mark.len ≤ n → left ≡ n - mark.len
    → is_less mark.len mark.start (memory_in old) (before (drop mark.logged old.cells.log.items) (memory_in old)) ≡ true
    → new.at ≡ mark.body → new.cells.values.items ≡ old.cells.values.items → Serves outer old.cells.log.items new.cells.log.items → IsWithin (length new.cells.values.items) new.cells.log.items
    → new.marks.items ≡ outer ++ marked_anew mark (length new.cells.log.items) ∷ []
    → Acts LoopEnd old n None left new
acts-again old new mark outer n left marks le sum less at values log within remarked = λ list here under.
    let i = inside list old mark outer marks here under in
    let anew : Mark = marked_anew mark (length new.cells.log.items) in
    let m = memory_in old in
    let turned : reverse new.marks.items ≡ anew ∷ reverse outer = ap reverse remarked ∙ reverse-append outer (anew ∷ []) in
    let os = loops_of_marks old.cells.log.items m (reverse outer) in
    let opened : loops_in new ≡ record { body = mark.body; start = mark.start; len = mark.len; memory = m } ∷ os =
    ap (loops_of_marks new.cells.log.items (memory_in new)) turned
    ∙ ap (λ vs. loops_of_marks new.cells.log.items (memory_of vs) (anew ∷ reverse outer)) values
    ∙ ap (λ ws. record { body = mark.body; start = mark.start; len = mark.len; memory = before ws m } ∷ loops_of_marks new.cells.log.items m (reverse outer)) (drop_all (length new.cells.log.items) new.cells.log.items (omega arith))
    ∙ ap (λ z. record { body = mark.body; start = mark.start; len = mark.len; memory = m } ∷ z) (outside-again list (rest_of (trees (drop (suc old.at) list))) mark.logged outer (reverse outer) old.cells.log.items new.cells.log.items m refl i.outside log) in (
      (λ callee.
          at_end_in list old mark outer n i here callee
          ∙ charge-is mark.len n (ended callee list old mark outer) le
          ∙ ap (λ (b : Bool). if b then run_from callee list mark.body (record { body = mark.body; start = mark.start; len = mark.len; memory = m } ∷ os) m (n - mark.len)
          else run_from callee list (suc old.at) os (before (drop mark.logged old.cells.log.items) m) (n - mark.len)) less
          ∙ ap (run_from callee list mark.body (record { body = mark.body; start = mark.start; len = mark.len; memory = m } ∷ os) m) (sym sum)
          ∙ ap (λ z. run_from callee list mark.body z m left) (sym opened)
          ∙ ap (λ vs. run_from callee list mark.body (loops_in new) (memory_of vs) left) (sym values)
          ∙ ap (λ a. run_from callee list a (loops_in new) (memory_in new) left) (sym at)),
      record {
        balanced = subst (λ a. IsBalanced (length new.marks.items) (drop a list)) (sym at)
            (subst (λ d. IsBalanced d (drop mark.body list))
            (let e = ap length remarked in let f : suc (length (reverse outer)) ≡ length new.marks.items = omega (arith, e, length-append outer (anew ∷ []), length-reverse outer) in f) i.is.balanced);
        marks = subst (λ a. AreLoopMarks list (rest_of (trees (drop a list))) (length new.cells.log.items) (reverse new.marks.items)) (sym at)
            (subst (AreLoopMarks list (rest_of (trees (drop mark.body list))) (length new.cells.log.items)) (sym turned) (
              record { follows = refl; balanced = i.is.balanced; logged = omega arith; some = i.is.some; region = i.is.region },
              subst (λ ts. AreLoopMarks list (rest_of ts) (length new.cells.log.items) (reverse outer)) (sym i.follows)
                  (marks-again list (rest_of (trees (drop (suc old.at) list))) outer (reverse outer) mark.logged old.cells.log.items new.cells.log.items refl log i.outside),
            ));
        within = within;
      },
    )

pub acts-leave : (old new : Progress) (mark : Mark) (outer : List Mark) (n left : ℕ) → old.marks.items ≡ outer ++ mark ∷ [] → mark.len ≤ n → left ≡ n - mark.len
    → is_less mark.len mark.start (memory_in old) (before (drop mark.logged old.cells.log.items) (memory_in old)) ≡ false
    → new.at ≡ suc old.at → memory_in new ≡ before (drop mark.logged old.cells.log.items) (memory_in old) → new.cells.log.items ≡ take mark.logged old.cells.log.items
    → new.marks.items ≡ outer → length new.cells.values.items ≡ length old.cells.values.items
    → Acts LoopEnd old n None left new
acts-leave old new mark outer n left marks le sum less at memory log popped size = λ list here under.
    let i = inside list old mark outer marks here under in
    let m = memory_in old in
    let k = mark.logged in
    let l = old.cells.log.items in
    let os = loops_of_marks l m (reverse outer) in
    let short : length (take k l) ≡ k = length-take-le k l i.is.logged in
    let undone : Replaces (take k l) (before (drop k l) m) l m = record { writes = drop k l; log = sym (take-append-drop k l); memory = refl } in
    let kept : os ≡ loops_of_marks (take k l) (before (drop k l) m) (reverse outer) =
    same-loops list (rest_of (trees (drop (suc old.at) list))) k (reverse outer) (take k l) l (before (drop k l) m) m i.outside (omega (arith, short)) (λ _. undone) in
    let opened : loops_in new ≡ os =
    ap (λ ms. loops_of_marks new.cells.log.items (memory_in new) (reverse ms)) popped
    ∙ ap (λ z. loops_of_marks z (memory_in new) (reverse outer)) log
    ∙ ap (λ z. loops_of_marks (take k l) z (reverse outer)) memory
    ∙ sym kept in (
      (λ callee.
          at_end_in list old mark outer n i here callee
          ∙ charge-is mark.len n (ended callee list old mark outer) le
          ∙ ap (λ (b : Bool). if b then run_from callee list mark.body (record { body = mark.body; start = mark.start; len = mark.len; memory = m } ∷ os) m (n - mark.len)
          else run_from callee list (suc old.at) os (before (drop k l) m) (n - mark.len)) less
          ∙ ap (run_from callee list (suc old.at) os (before (drop k l) m)) (sym sum)
          ∙ ap (λ z. run_from callee list (suc old.at) z (before (drop k l) m) left) (sym opened)
          ∙ ap (λ z. run_from callee list (suc old.at) (loops_in new) z left) (sym memory)
          ∙ ap (λ a. run_from callee list a (loops_in new) (memory_in new) left) (sym at)),
      record {
        balanced = subst (λ a. IsBalanced (length new.marks.items) (drop a list)) (sym at) (subst (λ ms. IsBalanced (length ms) (drop (suc old.at) list)) (sym popped) i.balanced);
        marks = subst (λ a. AreLoopMarks list (rest_of (trees (drop a list))) (length new.cells.log.items) (reverse new.marks.items)) (sym at)
            (subst (λ ms. AreLoopMarks list (rest_of (trees (drop (suc old.at) list))) (length new.cells.log.items) (reverse ms)) (sym popped)
            (subst (λ z. AreLoopMarks list (rest_of (trees (drop (suc old.at) list))) z (reverse outer)) (let e : k ≡ length new.cells.log.items = sym short ∙ ap length (sym log) in e) i.outside));
        within = λ j d lt. let here = under.within j d (let e = ap length log in omega (arith, e, short, i.is.logged)) in
            subst (λ z. (get_or new.cells.log.items j d).address < z) (sym size)
            (subst (λ (w : Written). w.address < length old.cells.values.items) (sym (ap (λ z. get_or z j d) log ∙ get_or-take k l j d (let e = ap length log in omega (arith, e, short)))) here);
      },
    )

-- an answer is written where there is room
pub takes : (old new : Progress) (v : ℤ) → new.at ≡ old.at → new.marks.items ≡ old.marks.items → memory_in new ≡ set_cell (memory_in old) old.target v
    → (0 < length old.marks.items → Replaces old.cells.log.items (memory_in old) new.cells.log.items (memory_in new))
    → (IsWithin (length old.cells.values.items) old.cells.log.items → IsWithin (length new.cells.values.items) new.cells.log.items)
    → HasTaken old v new
takes old new v at marks memory replaces within = λ list under.
    let replaced = λ (lt : 0 < length (reverse old.marks.items)). replaces (let e = length-reverse old.marks.items in omega (arith, e)) in
    let opened : loops_in new ≡ loops_in old =
    ap (λ ms. loops_of_marks new.cells.log.items (memory_in new) (reverse ms)) marks
    ∙ same-loops list (rest_of (trees (drop old.at list))) (length old.cells.log.items) (reverse old.marks.items) old.cells.log.items new.cells.log.items (memory_in old) (memory_in new) under.marks (omega arith) replaced in (
      record {
        balanced = subst (λ a. IsBalanced (length new.marks.items) (drop a list)) (sym at) (subst (λ ms. IsBalanced (length ms) (drop old.at list)) (sym marks) under.balanced);
        marks = subst (λ a. AreLoopMarks list (rest_of (trees (drop a list))) (length new.cells.log.items) (reverse new.marks.items)) (sym at)
            (subst (λ ms. AreLoopMarks list (rest_of (trees (drop old.at list))) (length new.cells.log.items) (reverse ms)) (sym marks)
            (marks-more list (rest_of (trees (drop old.at list))) (length old.cells.log.items) (length new.cells.log.items) (reverse old.marks.items)
            (λ lt. log-grows old.cells.log.items new.cells.log.items (memory_in old) (memory_in new) (replaced lt)) under.marks));
        within = within under.within;
      },
      λ callee n.
          ap (λ os. run_from callee list new.at os (memory_in new) n) opened
          ∙ ap (λ z. run_from callee list new.at (loops_in old) z n) memory
          ∙ ap (λ a. run_from callee list a (loops_in old) (set_cell (memory_in old) old.target v) n) at,
    )
