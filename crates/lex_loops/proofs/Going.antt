-- A run that goes on, step by step, to its stop.
use Rattle.std.proofs.Common.{ℕ, suc, ◌+◌, ◌<◌, ◌≤◌, ◌≡◌, sym, ap, subst, ◌∙◌, arith, ℤ, List, [], ◌∷◌, drop, length, get_or, reverse}
use Rattle.std.specs.Prelude.{IfOk, OnErr}
use Rattle.std.specs.declared.result.Result.{Result}
use Rattle.std.specs.declared.result.Result.TheVariants.{Ok, Err}
use Rattle.std.proofs.lemmas.List.{drop_all, nil_from_length}
use Rattle.std.proofs.Math.Seq.{drop-cons}
use Rattle.loda_syntax.specs.declared.instr.Instr.{Instr}
use Rattle.loda_syntax.specs.Programs.{Text, instrs}
use Rattle.loda_syntax.specs.Trees.{trees, first_tree}
use Rattle.loda_syntax.specs.WellFormed.{IsBalanced}
use Rattle.loda_semantics.specs.Exec.{none, Ending, done, Callee, exec}
use Rattle.lex_loops.specs.declared.progress.Progress.{Progress}
use Rattle.lex_loops.specs.declared.stop.Stop.{Stop}
use Rattle.lex_loops.specs.declared.stop.Stop.TheVariants as stop
use Rattle.lex_loops.specs.State.{MachineState, Advances, loops_of_marks, run_from, cost_of, StopsAs, IsCharged}
use Rattle.lex_loops.specs.Steps.{memory_in, loops_in, run_in, answered_in, IsUnderWay, IsAt}
use Rattle.lex_loops.specs.Machines.{machine_state}
use Rattle.lex_loops.specs.declared.stop.Phase.{Phase}

pub if_ok : {T E : Type 0} {P Q : T → Type 0} (r : Result T E) → ((t : T) → P t → Q t) → IfOk r P → IfOk r Q
if_ok (Ok t) f h = f t h
if_ok (Err e) f h = tt

pub on_err_both : {T E : Type 0} {P Q R : Type 0} (r : Result T E) → (P → Q → R) → OnErr r P → OnErr r Q → OnErr r R
on_err_both (Ok t) f p q = tt
on_err_both (Err e) f p q = f p q

-- the instruction that was read
pub reads : (list : List Instr) (at : ℕ) (i d : Instr) → at < length list → get_or list at d ≡ i → IsAt list at i
reads list at i d lt is = drop-cons list at d lt ∙ ap (λ z. z ∷ drop (suc at) list) is

pub charged-at : (list : List Instr) (i : Instr) (old : Progress) (n left next : ℕ) → IsAt list old.at i → 1 ≤ cost_of i → next ≡ old.at + 1 → left + cost_of i ≡ n
    → IsCharged list (λ callee. run_in callee list old n) left next
charged-at list i old n left next here costs past sum = record {
  at = old.at;
  here = i;
  loops = loops_in old;
  memory = memory_in old;
  past = omega (arith, past);
  stands = here;
  costs = costs;
  rest = λ callee. ap (run_in callee list old) (sym sum);
}

pub charged-after : (list : List Instr) (run1 run2 : Callee → Ending) (left next : ℕ) → ((callee : Callee) → run1 callee ≡ run2 callee) → IsCharged list run2 left next → IsCharged list run1 left next
charged-after list run1 run2 left next same c = record {
  at = c.at;
  here = c.here;
  loops = c.loops;
  memory = c.memory;
  past = c.past;
  stands = c.stands;
  costs = c.costs;
  rest = λ callee. same callee ∙ c.rest callee;
}

pub stops-after : (run1 run2 : Callee → Ending) (s : Stop) (left : ℕ) (next : Callee → ℤ → ℕ → Ending) → ((callee : Callee) → run1 callee ≡ run2 callee) → StopsAs run2 s left next → StopsAs run1 s left next
stops-after run1 run2 (stop.Done v) left next same h = λ callee. ((h callee).0, same callee ∙ (h callee).1, (h callee).2)
stops-after run1 run2 (stop.Call q x) left next same h = λ callee. same callee ∙ h callee
stops-after run1 run2 (stop.Fault k) left next same h = λ callee. same callee ∙ h callee
stops-after run1 run2 stop.Spent left next same h = λ callee. same callee ∙ h callee

-- a run at the end of its list
pub ends : (list : List Instr) (run : Progress) (n : ℕ) → length list ≤ run.at → IsUnderWay list run → (callee : Callee) → run_in callee list run n ≡ done (memory_in run) n none
ends list run n le under callee =
    let past : drop run.at list ≡ [] = drop_all run.at list le in
    let closed : length run.marks.items ≡ 0 = subst (IsBalanced (length run.marks.items)) past under.balanced in
    let none_open : run.marks.items ≡ [] = nil_from_length run.marks.items closed in
    ap (λ ms. run_from callee list run.at (loops_of_marks run.cells.log.items (memory_in run) (reverse ms)) (memory_in run) n) none_open
    ∙ ap (λ is. exec callee (first_tree (trees is)) (memory_in run) n) past

-- a run that has gone on from another
pub record GoesOn (list : List Instr) (old : Progress) (n : ℕ) (run : Progress) (left : ℕ) : Type 0 where
  pub same : (callee : Callee) → run_in callee list old n ≡ run_in callee list run left
  pub under_way : IsUnderWay list run
  pub budget : left ≤ n
  pub len : length old.cells.values.items ≤ length run.cells.values.items

-- what the run of a machine's list says of the machine
pub advances : (st : MachineState) (p : Text) (list : List Instr) (run new : Progress) (phase after : Phase) (n left : ℕ) (s : Stop) → machine_state p run phase ≡ st → list ≡ instrs st.program
    → StopsAs (λ callee. run_in callee list run n) s left (λ callee. answered_in callee list new) → Advances st n s left (machine_state p new after)
advances st p list run new phase after n left s is same h =
    subst (λ z. Advances z n s left (machine_state p new after)) is
    (subst (λ l. StopsAs (λ callee. run_in callee l run n) s left (λ callee. answered_in callee l new)) (same ∙ ap (λ (z : MachineState). instrs z.program) (sym is)) h)
