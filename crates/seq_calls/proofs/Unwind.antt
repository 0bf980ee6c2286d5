-- Runs of callees inside one another: what the innermost comes to, the callers go on with.
use Rattle.std.proofs.Common.{ℕ, suc, ◌+◌, ◌-◌, ◌≤◌, ◌≡◌, refl, sym, ap, ◌∙◌, arith, ℤ, List, [], ◌∷◌, ◌++◌, append_assoc, append-nil}
use Rattle.std.specs.declared.option.Option.{Option}
use Rattle.std.specs.declared.option.Option.TheVariants.{Some, None}
use Rattle.loda_syntax.specs.Programs.{Text, instrs}
use Rattle.loda_syntax.specs.Trees.{tree_of}
use Rattle.loda_semantics.specs.declared.kinds.FaultKind.{FaultKind}
use Rattle.loda_semantics.specs.declared.kinds.FaultKind.TheVariants.{Missing}
use Rattle.loda_semantics.specs.Memory.{memory_with}
use Rattle.loda_semantics.specs.Exec.{value, fault, out, Calls, none, call, join, Ending, failed, spent, after_calls, Library, run_name, run_text, run_deep, exec, outcome_of}
use Rattle.loda_semantics.proofs.Laws.{run_text-is}
use Rattle.lex_loops.specs.declared.stop.Stop.TheVariants as stop
use Rattle.lex_loops.specs.State.{MachineState, run_on, run_answered, answered_by, Begins, Advances, TakesAnswer}
use Rattle.seq_calls.specs.declared.outcomes.NodeRun.{NodeRun}
use Rattle.seq_calls.specs.Frames.{nodes_in}
use Rattle.seq_calls.proofs.Joined.{after-after, nodes_join}

-- a caller that waits: its state, its calls before this one, the call, and the steps that the callee was given
pub record Waiting : Type 0 where
  pub state : MachineState
  pub before : Calls
  pub name : ℕ
  pub arg : ℤ
  pub given : ℕ

-- what the innermost run comes to, the callers go on with, the innermost first
abbrev pub unwind : Library → List Waiting → Ending → Ending
unwind lib [] r = r
unwind lib (f ∷ fs) r =
    unwind lib fs (after_calls f.before (answered_by f.name f.arg f.given (run_answered (run_name lib) f.state) (outcome_of f.given r)))

-- the runs that finished before the innermost one
abbrev pub nodes_before : List Waiting → List NodeRun
nodes_before [] = []
nodes_before (f ∷ fs) = nodes_before fs ++ nodes_in f.before

-- each was given at least what is left
abbrev pub AreGiven : ℕ → List Waiting → Type 0
AreGiven n [] = Unit {0}
AreGiven n (f ∷ fs) = (n ≤ f.given) × AreGiven n fs

named : (lib : Library) (q : ℕ) (x : ℤ) (n : ℕ) (o : Option Text) (p : Text) → o ≡ Some p → run_deep lib (suc n) o x n ≡ run_text lib p x n
named lib q x n o p e = ap (λ o. run_deep lib (suc n) o x n) e

-- a run of a name is one of its program
pub name-is : (lib : Library) (q : ℕ) (x : ℤ) (n : ℕ) (p : Text) → lib q ≡ Some p → run_name lib q x n ≡ outcome_of n (exec (run_name lib) (tree_of (instrs p)) (memory_with x) n)
name-is lib q x n p here = named lib q x n (lib q) p here ∙ run_text-is lib p x n

-- a call of a name that is there: its machine is put before the callers
pub push_call : (lib : Library) (fs : List Waiting) (before : Calls) (st new callee : MachineState) (n left q : ℕ) (x : ℤ) (p : Text)
    → Advances st n (stop.Call q x) left new → lib q ≡ Some p → Begins callee p x
    → unwind lib fs (after_calls before (run_on (run_name lib) st n))
    ≡ unwind lib (record { state = new; before = before; name = q; arg = x; given = left } ∷ fs) (run_on (run_name lib) callee left)
push_call lib fs before st new callee n left q x p adv here start =
    ap (λ r. unwind lib fs (after_calls before r))
    (adv (run_name lib)
    ∙ ap (answered_by q x left (run_answered (run_name lib) new)) (name-is lib q x left p here ∙ ap (outcome_of left) (sym (start (run_name lib) left))))

-- a call of a name that isn't there
pub missing_call : (lib : Library) (fs : List Waiting) (before : Calls) (st new : MachineState) (n left q : ℕ) (x : ℤ)
    → Advances st n (stop.Call q x) left new → lib q ≡ None
    → unwind lib fs (after_calls before (run_on (run_name lib) st n)) ≡ unwind lib fs (failed Missing left (join before (call q x (fault Missing 0) none none)))
missing_call lib fs before st new n left q x adv gone =
    ap (λ r. unwind lib fs (after_calls before r))
    (adv (run_name lib)
    ∙ ap (answered_by q x left (run_answered (run_name lib) new)) (ap (λ o. run_deep lib (suc left) o x left) gone)
    ∙ ap (λ z. failed Missing z (call q x (fault Missing 0) none none)) (omega arith))

-- a callee that is done: its caller has the answer, and goes on with what is left
pub pop_value : (lib : Library) (f : Waiting) (fs : List Waiting) (before : Calls) (st answered new : MachineState) (n left : ℕ) (v : ℤ)
    → Advances st n (stop.Done v) left new → (used : ℕ) → used + left ≡ f.given → TakesAnswer f.state v answered
    → unwind lib (f ∷ fs) (after_calls before (run_on (run_name lib) st n))
    ≡ unwind lib fs (after_calls (join f.before (call f.name f.arg (value v used) (join before none) none)) (run_on (run_name lib) answered left))
pop_value lib f fs before st answered new n left v adv used sum goes_on =
    let d = adv (run_name lib) in
    let spent1 : f.given - left ≡ used = omega arith in
    let rest1 : f.given - used ≡ left = omega arith in
    ap (unwind lib fs)
    (ap (λ r. after_calls f.before (answered_by f.name f.arg f.given (run_answered (run_name lib) f.state) (outcome_of f.given (after_calls before r)))) d.1
    ∙ ap (λ z. after_calls f.before (answered_by f.name f.arg f.given (run_answered (run_name lib) f.state) (value z (f.given - left), join before none))) d.2
    ∙ ap (λ u. after_calls f.before (answered_by f.name f.arg f.given (run_answered (run_name lib) f.state) (value v u, join before none))) spent1
    ∙ ap (λ z. after_calls f.before (after_calls (call f.name f.arg (value v used) (join before none) none) (run_answered (run_name lib) f.state v z))) rest1
    ∙ ap (λ r. after_calls f.before (after_calls (call f.name f.arg (value v used) (join before none) none) r)) (sym (goes_on (run_name lib) left))
    ∙ after-after f.before (call f.name f.arg (value v used) (join before none) none) (run_on (run_name lib) answered left))

-- a fault of the innermost run is that of the whole, with the steps that are left, and no caller's run finishes
pub unwind_failed : (lib : Library) (fs : List Waiting) (k : FaultKind) (left : ℕ) (c : Calls) → AreGiven left fs
    → (all : Calls) × (unwind lib fs (failed k left c) ≡ failed k left all) × (nodes_in all ≡ nodes_before fs ++ nodes_in c)
unwind_failed lib [] k left c given = (c, refl, refl)
unwind_failed lib (f ∷ fs) k left c given =
    let le : left ≤ f.given = given.0 in
    let same : f.given - (f.given - left) ≡ left = omega arith in
    let d : Calls = join f.before (call f.name f.arg (fault k (f.given - left)) c none) in
    let rest = unwind_failed lib fs k left d given.1 in (
      rest.0,
      ap (λ (n : ℕ). unwind lib fs (failed k n d)) same ∙ rest.1,
      rest.2 ∙ ap (λ (ns : List NodeRun). nodes_before fs ++ ns)
          (nodes_join f.before (call f.name f.arg (fault k (f.given - left)) c none) ∙ ap (λ (ns : List NodeRun). nodes_in f.before ++ ns) (append-nil (nodes_in c ++ []) ∙ append-nil (nodes_in c)))
          ∙ sym (append_assoc (nodes_before fs) (nodes_in f.before) (nodes_in c)),
    )

-- likewise where the steps ran out
pub unwind_spent : (lib : Library) (fs : List Waiting) (left : ℕ) (c : Calls) → AreGiven left fs
    → (all : Calls) × (unwind lib fs (spent left c) ≡ spent left all) × (nodes_in all ≡ nodes_before fs ++ nodes_in c)
unwind_spent lib [] left c given = (c, refl, refl)
unwind_spent lib (f ∷ fs) left c given =
    let le : left ≤ f.given = given.0 in
    let same : f.given - (f.given - left) ≡ left = omega arith in
    let d : Calls = join f.before (call f.name f.arg (out (f.given - left)) c none) in
    let rest = unwind_spent lib fs left d given.1 in (
      rest.0,
      ap (λ (n : ℕ). unwind lib fs (spent n d)) same ∙ rest.1,
      rest.2 ∙ ap (λ (ns : List NodeRun). nodes_before fs ++ ns)
          (nodes_join f.before (call f.name f.arg (out (f.given - left)) c none) ∙ ap (λ (ns : List NodeRun). nodes_in f.before ++ ns) (append-nil (nodes_in c ++ []) ∙ append-nil (nodes_in c)))
          ∙ sym (append_assoc (nodes_before fs) (nodes_in f.before) (nodes_in c)),
    )
