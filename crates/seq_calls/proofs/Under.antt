-- What holds while frames run.
use Rattle.std.proofs.Common.{is_some, Bor, ℕ, ◌+◌, ◌-◌, ◌≤◌, ◌≡◌, refl, sym, ap, subst, ◌∙◌, arith, ℤ, Bool, false, IsTrue, List, [], ◌∷◌, ◌++◌, ◌&&◌, true, reverse, append_assoc, append-nil}
use Rattle.std.specs.Global.{Box}
use Rattle.std.proofs.lemmas.List.{reverse-append}
use Rattle.std.specs.declared.option.Option.{Option}
use Rattle.std.specs.declared.option.Option.TheVariants.{Some, None}
use Rattle.loda_syntax.specs.Programs.{Text}
use Rattle.loda_semantics.specs.declared.kinds.Pair.{Pair}
use Rattle.loda_semantics.specs.declared.kinds.FaultKind.{FaultKind}
use Rattle.loda_semantics.specs.declared.kinds.FaultKind.TheVariants.{Missing}
use Rattle.loda_semantics.specs.Exec.{Outcome, value, fault, out, Calls, none, call, join, Ending, failed, after_calls, Library, run_name, run_text, outcome_of}
use Rattle.loda_semantics.proofs.Laws.{run_text-is}
use Rattle.lex_loops.specs.declared.stop.Stop.TheVariants as stop
use Rattle.lex_loops.specs.declared.stop.Phase.TheVariants.{Ready, Waiting as IsWaiting}
use Rattle.lex_loops.specs.State.{MachineState, run_on, Begins, Advances, TakesAnswer}
use Rattle.seq_calls.specs.declared.unfinished.Frame.{Frame}
use Rattle.seq_calls.specs.declared.unfinished.Caller.{Caller}
use Rattle.seq_calls.specs.declared.outcomes.NodeRun.{NodeRun}
use Rattle.seq_calls.specs.declared.outcomes.Outcome.TheVariants as told_as
use Rattle.seq_calls.specs.declared.outcomes.Outcome.{Outcome as Told}
use Rattle.seq_calls.specs.Frames.{pair, direct, steps_below, nodes_in, node_of, told, steps_of, nodes_of}
use Rattle.seq_calls.specs.Under.{ended_run, named_run, keeps, IsRun}
use Rattle.seq_calls.proofs.Joined.{join-none, after-none, direct_join, steps_join, nodes_join}
use Rattle.seq_calls.proofs.Unwind.{Waiting, unwind, nodes_before, AreGiven, push_call, missing_call, pop_value, unwind_failed, unwind_spent}

-- whether the calls of the outermost run are kept, and whether those of each run are, and the finished runs
pub record Keeping : Type 0 where
  pub outermost : Bool
  pub all : Bool

-- Under a name the outermost run's calls are kept; where all are wanted too, so are those of each run, and else of no callee.
pub record IsNamed (keep : Keeping) (name : Option ℕ) (all : Bool) : Type 0 where
  pub outermost : (q : ℕ) → name ≡ Some q → IsTrue keep.outermost
  pub each : IsTrue all → (q : ℕ) → name ≡ Some q → IsTrue keep.all
  pub alone : all ≡ false → keep.all ≡ false

-- a frame of a program that has made these calls, and has so many steps left
pub record Stands (kept : Bool) (p : Text) (f : Frame) (before : Calls) (left : ℕ) : Type 0 where
  pub text : f.machine.program ≡ p
  pub calls : IsTrue kept → f.calls.items ≡ direct before
  pub below : f.below ≡ steps_below before
  pub within : f.below + left ≤ f.given

-- the callers of a run that was given so many steps, the innermost first, and the calls that each has made; the outermost
-- run has the whole limit
abbrev pub Wait : Keeping → ℕ → ℕ → List Caller → List Calls → Type 0
Wait keep limit given [] [] = given ≡ limit
Wait keep limit given (f ∷ fs) (b ∷ bs) = Stands (keeps keep.outermost keep.all fs) f.program.now f.frame.value b given × (f.frame.value.machine.phase ≡ IsWaiting) × Wait keep limit f.frame.value.given fs bs
Wait keep limit given fs bs = ⊥

abbrev pub waiting : ℕ → List Caller → List Calls → List Waiting
waiting given (f ∷ fs) (b ∷ bs) = record { state = f.frame.value.machine; before = b; name = f.call.name; arg = f.call.arg; given = given } ∷ waiting f.frame.value.given fs bs
waiting given fs bs = []

-- The frames stand for the rest of the outermost run, which comes to `ran` in the end.
pub record IsUnder (lib : Library) (keep : Keeping) (limit : ℕ) (ran : Outcome × Calls) (prog : Text) (frame : Frame) (callers : List Caller) (nodes : List NodeRun) (left : ℕ) : Type 0 where
  pub before : Calls
  pub befores : List Calls
  pub ready : frame.machine.phase ≡ Ready
  pub stands : Stands (keeps keep.outermost keep.all callers) prog frame before left
  pub wait : Wait keep limit frame.given callers befores
  pub nodes_are : IsTrue keep.all → nodes ≡ nodes_before (waiting frame.given callers befores) ++ nodes_in before
  pub alone : keep.all ≡ false → nodes ≡ []
  pub run : outcome_of limit (unwind lib (waiting frame.given callers befores) (after_calls before (run_on (run_name lib) frame.machine left))) ≡ ran

-- where a run begins
pub begins : (lib : Library) (keep : Keeping) (limit : ℕ) (x : ℤ) (p : Text) (frame : Frame) → Begins frame.machine p x → frame.machine.program ≡ p → frame.machine.phase ≡ Ready
    → frame.given ≡ limit → frame.calls.items ≡ [] → frame.below ≡ 0 → IsUnder lib keep limit (run_text lib p x limit) p frame [] [] limit
begins lib keep limit x p frame start text ready given calls below = record {
  before = none;
  befores = [];
  ready = ready;
  stands = record {
    text = text;
    calls = λ k. calls;
    below = below;
    within = omega (arith, below, given);
  };
  wait = given;
  nodes_are = λ k. refl;
  alone = λ k. refl;
  run = ap (outcome_of limit) (after-none (run_on (run_name lib) frame.machine limit) ∙ start (run_name lib) limit) ∙ sym (run_text-is lib p x limit);
}

-- every caller was given at least what is left
given_left : (keep : Keeping) (limit left given : ℕ) (callers : List Caller) (befores : List Calls) → left ≤ given → Wait keep limit given callers befores → AreGiven left (waiting given callers befores)
given_left keep limit left given [] [] le w = tt
given_left keep limit left given [] (b ∷ bs) le w = tt
given_left keep limit left given (f ∷ fs) [] le w = tt
given_left keep limit left given (f ∷ fs) (b ∷ bs) le w = (le, given_left keep limit left f.frame.value.given fs bs (let h = w.0.within in omega (arith, h)) w.2)

left_within : (keep : Keeping) (limit left given : ℕ) (callers : List Caller) (befores : List Calls) → left ≤ given → Wait keep limit given callers befores → left ≤ limit
left_within keep limit left given [] [] le w = omega (arith, w)
left_within keep limit left given [] (b ∷ bs) le w = absurd w
left_within keep limit left given (f ∷ fs) [] le w = absurd w
left_within keep limit left given (f ∷ fs) (b ∷ bs) le w = left_within keep limit left f.frame.value.given fs bs (let h = w.0.within in omega (arith, h)) w.2

-- what is left of the limit
pub under_limit : (lib : Library) (keep : Keeping) (limit : ℕ) (ran : Outcome × Calls) (prog : Text) (frame : Frame) (callers : List Caller) (nodes : List NodeRun) (left : ℕ) → IsUnder lib keep limit ran prog frame callers nodes left → left ≤ limit
under_limit lib keep limit ran prog frame callers nodes left h = left_within keep limit left frame.given callers h.befores (let w = h.stands.within in omega (arith, w)) h.wait

-- ---- a call

-- a frame that waits for the value of r at y
abbrev pub caller_of : Bor Text → Box Frame → Frame → MachineState → ℕ → ℤ → Caller
caller_of program b frame new r y = record { program = program; frame = record b { value = record frame { machine = new } }; call = record { name = r; arg = y } }

-- a call of a name that is there
pub called : (lib : Library) (keep : Keeping) (limit : ℕ) (ran : Outcome × Calls) (program : Bor Text) (b : Box Frame) (frame callee : Frame) (callers : List Caller) (nodes : List NodeRun) (n left r : ℕ) (y : ℤ) (p : Text) (new : MachineState)
    → IsUnder lib keep limit ran program.now frame callers nodes n → Advances frame.machine n (stop.Call r y) left new → left ≤ n
    → new.program ≡ frame.machine.program → new.phase ≡ IsWaiting
    → lib r ≡ Some p → Begins callee.machine p y → callee.machine.program ≡ p → callee.machine.phase ≡ Ready
    → callee.given ≡ left → callee.calls.items ≡ [] → callee.below ≡ 0
    → IsUnder lib keep limit ran p callee (caller_of program b frame new r y ∷ callers) nodes left
called lib keep limit ran program b frame callee callers nodes n left r y p new u adv le text waits here start begun ready given calls below =
    let st = u.stands in
    let ws = waiting frame.given callers u.befores in
    let W : ℕ → List Waiting = λ (g : ℕ). record { state = new; before = u.before; name = r; arg = y; given = g } ∷ ws in
    record {
      before = none;
      befores = u.before ∷ u.befores;
      ready = ready;
      stands = record {
        text = begun;
        calls = λ k. calls;
        below = below;
        within = omega (arith, below, given);
      };
      wait = (record { text = text ∙ st.text; calls = st.calls; below = st.below; within = (let w = st.within in omega (arith, w, given, le)) }, waits, u.wait);
      nodes_are = λ k. u.nodes_are k ∙ sym (append-nil _);
      alone = u.alone;
      run = ap (λ (g : ℕ). outcome_of limit (unwind lib (W g) (after_calls none (run_on (run_name lib) callee.machine left)))) given
          ∙ ap (λ (e : Ending). outcome_of limit (unwind lib (W left) e)) (after-none _)
          ∙ sym (ap (outcome_of limit) (push_call lib ws u.before frame.machine new callee.machine n left r y p adv here start)) ∙ u.run;
    }

-- ---- a value

-- the node of a run that ends
pub record IsNode (p : Pair) (before : Calls) (v : ℤ) (used : ℕ) (node : NodeRun) : Type 0 where
  pub pair : node.pair ≡ p
  pub value : node.value ≡ v
  pub own : node.own ≡ used - steps_below before
  pub calls : node.calls ≡ direct before

node_is : (p : Pair) (before : Calls) (v : ℤ) (used : ℕ) (node : NodeRun) → IsNode p before v used node → node ∷ [] ≡ node_of p.name p.arg (value v used) before
node_is p before v used node h =
    let N : Pair → ℤ → ℕ → List Pair → List NodeRun = λ r w o cs. record { pair = r; value = w; own = o; calls = cs } ∷ [] in
    ap (λ (r : Pair). N r node.value node.own node.calls) h.pair ∙ ap (λ (w : ℤ). N p w node.own node.calls) h.value
    ∙ ap (λ (o : ℕ). N p v o node.calls) h.own ∙ ap (N p v (used - steps_below before)) h.calls

-- the innermost run ends with a value, and its caller goes on
pub answered : (lib : Library) (keep : Keeping) (limit : ℕ) (ran : Outcome × Calls) (prog : Text) (frame next : Frame) (caller : Caller) (callers : List Caller) (nodes : List NodeRun) (node : NodeRun) (n left used : ℕ) (v : ℤ) (new : MachineState)
    → (u : IsUnder lib keep limit ran prog frame (caller ∷ callers) nodes n) → Advances frame.machine n (stop.Done v) left new → used + left ≡ frame.given
    → (held : Frame) → held ≡ caller.frame.value
    → TakesAnswer held.machine v next.machine → next.machine.phase ≡ Ready → next.machine.program ≡ held.machine.program
    → next.given ≡ held.given → (IsTrue (keeps keep.outermost keep.all callers) → next.calls.items ≡ held.calls.items ++ caller.call ∷ []) → next.below ≡ held.below + used
    → (IsTrue keep.all → IsNode caller.call u.before v used node) → (more : List NodeRun) → (IsTrue keep.all → more ≡ nodes ++ node ∷ []) → (keep.all ≡ false → more ≡ nodes)
    → IsUnder lib keep limit ran caller.program.now next callers more left
answered lib keep limit ran prog frame next caller callers nodes node n left used v new u adv sum held is_held takes ready text given calls below is_node more grown apart = by_befores u.befores u.wait u.nodes_are u.run
  where
    by_befores : (bs : List Calls) → Wait keep limit frame.given (caller ∷ callers) bs → (IsTrue keep.all → nodes ≡ nodes_before (waiting frame.given (caller ∷ callers) bs) ++ nodes_in u.before)
        → outcome_of limit (unwind lib (waiting frame.given (caller ∷ callers) bs) (after_calls u.before (run_on (run_name lib) frame.machine n))) ≡ ran
        → IsUnder lib keep limit ran caller.program.now next callers more left
    by_befores [] w nodes_are run = absurd w
    by_befores (b ∷ bs) w nodes_are run =
        let its_given : next.given ≡ caller.frame.value.given = given ∙ ap (λ (f : Frame). f.given) is_held in
        let its_below : next.below ≡ caller.frame.value.below + used = below ∙ ap (λ (f : Frame). f.below + used) is_held in
        let q = caller.call.name in
        let x = caller.call.arg in
        let f : Waiting = record { state = caller.frame.value.machine; before = b; name = q; arg = x; given = frame.given } in
        let fs = waiting caller.frame.value.given callers bs in
        let inner = join u.before none in
        let made : Calls = call q x (value v used) inner none in
        let popped = pop_value lib f fs u.before frame.machine next.machine new n left v adv used sum (subst (λ (f : Frame). TakesAnswer f.machine v next.machine) is_held takes) in
        let same : waiting next.given callers bs ≡ fs = ap (λ (g : ℕ). waiting g callers bs) its_given in
        let node_list : IsTrue keep.all → node ∷ [] ≡ node_of q x (value v used) inner = λ k. node_is caller.call u.before v used node (is_node k) ∙ ap (node_of q x (value v used)) (sym (join-none u.before)) in
        record {
          before = join b made;
          befores = bs;
          ready = ready;
          stands = record {
            text = text ∙ ap (λ (f : Frame). f.machine.program) is_held ∙ w.0.text;
            calls = λ k. calls k ∙ ap (λ (f : Frame). f.calls.items ++ caller.call ∷ []) is_held ∙ ap (λ (ps : List Pair). ps ++ caller.call ∷ []) (w.0.calls k) ∙ sym (direct_join b made);
            below = (let j = steps_join b made in let bb = w.0.below in omega (arith, j, bb, its_below));
            within = (let ww = w.0.within in omega (arith, ww, its_below, its_given, sum));
          };
          wait = subst (λ (g : ℕ). Wait keep limit g callers bs) (sym its_given) w.2;
          nodes_are = λ k. grown k ∙ ap (λ (ns : List NodeRun). ns ++ node ∷ []) (nodes_are k)
              ∙ append_assoc (nodes_before fs ++ nodes_in b) (nodes_in u.before) (node ∷ [])
              ∙ append_assoc (nodes_before fs) (nodes_in b) (nodes_in u.before ++ node ∷ [])
              ∙ ap (λ (ns : List NodeRun). nodes_before fs ++ (nodes_in b ++ ns)) (ap (λ (ns : List NodeRun). nodes_in u.before ++ ns) (node_list k)
              ∙ ap (λ (c : Calls). nodes_in c ++ node_of q x (value v used) inner) (sym (join-none u.before)) ∙ sym (append-nil _))
              ∙ ap (λ (ns : List NodeRun). nodes_before fs ++ ns) (sym (nodes_join b made))
              ∙ ap (λ (ws : List Waiting). nodes_before ws ++ nodes_in (join b made)) (sym same);
          alone = λ k. apart k ∙ u.alone k;
          run = ap (λ (ws : List Waiting). outcome_of limit (unwind lib ws (after_calls (join b made) (run_on (run_name lib) next.machine left)))) same
              ∙ sym (ap (outcome_of limit) popped) ∙ run;
        }

-- ---- ends

-- what the whole run comes to, told as the code has it
told_run : (ran : Outcome × Calls) (name : Option ℕ) (all : Bool) (x : ℤ) (n left : ℕ) (answer : Told) (made : List NodeRun) (o : Outcome) (c : Calls) → ran ≡ (o, c) → answer ≡ told o
    → (IsTrue all → (q : ℕ) → name ≡ Some q → made ≡ nodes_in c ++ node_of q x o c) → (all ≡ false → (q : ℕ) → name ≡ Some q → made ≡ node_of q x o c)
    → steps_of o + left ≡ n → IsRun ran name all x n answer made left
told_run ran name all x n left answer made o c is outcome nodes own steps = record {
  outcome = outcome ∙ sym (ap (λ (r : Outcome × Calls). told r.0) is);
  finished = λ k q e. nodes k q e ∙ sym (ap (λ (r : Outcome × Calls). nodes_of q x r) is);
  own = λ k q e. own k q e ∙ sym (ap (λ (r : Outcome × Calls). node_of q x r.0 r.1) is);
  steps = ap (λ (r : Outcome × Calls). steps_of r.0 + left) is ∙ steps;
}

-- a fault ends the whole run
ended_failed : (lib : Library) (keep : Keeping) (limit : ℕ) (ran : Outcome × Calls) (name : Option ℕ) (all : Bool) (named : IsNamed keep name all) (x : ℤ) (prog : Text) (frame : Frame) (callers : List Caller) (nodes : List NodeRun) (n left : ℕ) (k : FaultKind) (c : Calls) (answer : Told) (made : List NodeRun)
    → (u : IsUnder lib keep limit ran prog frame callers nodes n) → left ≤ n
    → unwind lib (waiting frame.given callers u.befores) (after_calls u.before (run_on (run_name lib) frame.machine n)) ≡ unwind lib (waiting frame.given callers u.befores) (failed k left c)
    → nodes_in c ≡ nodes_in u.before → answer ≡ told_as.Fault k (limit - left) → made ≡ nodes → IsRun ran name all x limit answer made left
ended_failed lib keep limit ran name all named x prog frame callers nodes n left k c answer made u le is same_nodes outcome are =
    let ws = waiting frame.given callers u.befores in
    let given = given_left keep limit left frame.given callers u.befores (let w = u.stands.within in omega (arith, w, le)) u.wait in
    let bound = under_limit lib keep limit ran prog frame callers nodes n u in
    let whole_calls = unwind_failed lib ws k left c given in
    let whole : ran ≡ (fault k (limit - left), whole_calls.0) = sym u.run ∙ ap (outcome_of limit) is ∙ ap (outcome_of limit) whole_calls.1 in
    told_run ran name all x limit left answer made (fault k (limit - left)) whole_calls.0 whole outcome
    (λ k q e. are ∙ u.nodes_are (named.each k q e) ∙ ap (λ (ns : List NodeRun). nodes_before ws ++ ns) (sym same_nodes) ∙ sym whole_calls.2 ∙ sym (append-nil _))
    (λ k q e. are ∙ u.alone (named.alone k)) (omega (arith, bound, le))

pub faulted : (lib : Library) (keep : Keeping) (limit : ℕ) (ran : Outcome × Calls) (name : Option ℕ) (all : Bool) (named : IsNamed keep name all) (x : ℤ) (prog : Text) (frame : Frame) (callers : List Caller) (nodes : List NodeRun) (n left : ℕ) (k : FaultKind) (new : MachineState) (answer : Told) (made : List NodeRun)
    → IsUnder lib keep limit ran prog frame callers nodes n → left ≤ n → Advances frame.machine n (stop.Fault k) left new
    → answer ≡ told_as.Fault k (limit - left) → made ≡ nodes → IsRun ran name all x limit answer made left
faulted lib keep limit ran name all named x prog frame callers nodes n left k new answer made u le adv outcome are =
    ended_failed lib keep limit ran name all named x prog frame callers nodes n left k (join u.before none) answer made u le
    (ap (λ (e : Ending). unwind lib (waiting frame.given callers u.befores) (after_calls u.before e)) (adv (run_name lib))) (ap nodes_in (join-none u.before)) outcome are

pub missing : (lib : Library) (keep : Keeping) (limit : ℕ) (ran : Outcome × Calls) (name : Option ℕ) (all : Bool) (named : IsNamed keep name all) (x : ℤ) (prog : Text) (frame : Frame) (callers : List Caller) (nodes : List NodeRun) (n left r : ℕ) (y : ℤ) (new : MachineState) (answer : Told) (made : List NodeRun)
    → IsUnder lib keep limit ran prog frame callers nodes n → left ≤ n → Advances frame.machine n (stop.Call r y) left new → lib r ≡ None
    → answer ≡ told_as.Fault Missing (limit - left) → made ≡ nodes → IsRun ran name all x limit answer made left
missing lib keep limit ran name all named x prog frame callers nodes n left r y new answer made u le adv gone outcome are =
    let gone_call : Calls = call r y (fault Missing 0) none none in
    ended_failed lib keep limit ran name all named x prog frame callers nodes n left Missing (join u.before gone_call) answer made u le
    (missing_call lib (waiting frame.given callers u.befores) u.before frame.machine new n left r y adv gone)
    (nodes_join u.before gone_call ∙ append-nil (nodes_in u.before)) outcome are

pub ran_out : (lib : Library) (keep : Keeping) (limit : ℕ) (ran : Outcome × Calls) (name : Option ℕ) (all : Bool) (named : IsNamed keep name all) (x : ℤ) (prog : Text) (frame : Frame) (callers : List Caller) (nodes : List NodeRun) (n left : ℕ) (new : MachineState) (answer : Told) (made : List NodeRun)
    → IsUnder lib keep limit ran prog frame callers nodes n → left ≤ n → Advances frame.machine n stop.Spent left new
    → answer ≡ told_as.OutOfSteps → made ≡ nodes → IsRun ran name all x limit answer made left
ran_out lib keep limit ran name all named x prog frame callers nodes n left new answer made u le adv outcome are =
    let c : Calls = join u.before none in
    let ws = waiting frame.given callers u.befores in
    let given = given_left keep limit left frame.given callers u.befores (let w = u.stands.within in omega (arith, w, le)) u.wait in
    let bound = under_limit lib keep limit ran prog frame callers nodes n u in
    let whole_calls = unwind_spent lib ws left c given in
    let whole : ran ≡ (out (limit - left), whole_calls.0) = sym u.run ∙ ap (λ (e : Ending). outcome_of limit (unwind lib ws (after_calls u.before e))) (adv (run_name lib)) ∙ ap (outcome_of limit) whole_calls.1 in
    told_run ran name all x limit left answer made (out (limit - left)) whole_calls.0 whole outcome
    (λ k q e. are ∙ u.nodes_are (named.each k q e) ∙ ap (λ (ns : List NodeRun). nodes_before ws ++ ns) (ap nodes_in (sym (join-none u.before))) ∙ sym whole_calls.2 ∙ sym (append-nil _))
    (λ k q e. are ∙ u.alone (named.alone k)) (omega (arith, bound, le))

-- its own finished run, of what its frame holds
named_run-is : (q : ℕ) (x v : ℤ) (used below : ℕ) (calls : List Pair) (before : Calls) → below ≡ steps_below before → calls ≡ direct before
    → named_run (Some q) x v (used - below) calls ≡ node_of q x (value v used) before
named_run-is q x v used below calls before same_below same_calls =
    let N : ℕ → List Pair → List NodeRun = λ o cs. ended_run (pair q x) v o cs ∷ [] in
    ap (λ (b : ℕ). N (used - b) calls) same_below ∙ ap (N (used - steps_below before)) same_calls

-- the outermost run ends with a value, and what it adds to the nodes is its own
pub finished : (lib : Library) (keep : Keeping) (limit : ℕ) (ran : Outcome × Calls) (name : Option ℕ) (all : Bool) (named : IsNamed keep name all) (x : ℤ) (prog : Text) (frame : Frame) (nodes : List NodeRun) (n left used : ℕ) (v : ℤ) (new : MachineState) (answer : Told) (made : List NodeRun)
    → IsUnder lib keep limit ran prog frame [] nodes n → Advances frame.machine n (stop.Done v) left new → used + left ≡ frame.given
    → answer ≡ told_as.Value v used → made ≡ nodes ++ named_run name x v (used - frame.below) frame.calls.items → IsRun ran name all x limit answer made left
finished lib keep limit ran name all named x prog frame nodes n left used v new answer made u adv sum outcome are = by_befores u.befores u.wait u.nodes_are u.run
  where
    by_befores : (bs : List Calls) → Wait keep limit frame.given [] bs → (IsTrue keep.all → nodes ≡ nodes_before (waiting frame.given [] bs) ++ nodes_in u.before)
        → outcome_of limit (unwind lib (waiting frame.given [] bs) (after_calls u.before (run_on (run_name lib) frame.machine n))) ≡ ran → IsRun ran name all x limit answer made left
    by_befores (b ∷ bs) w nodes_are whole = absurd w
    by_befores [] w nodes_are whole =
        let d = adv (run_name lib) in
        let spent_is : limit - left ≡ used = omega (arith, w, sum) in
        let c = join u.before none in
        let is : ran ≡ (value v used, c) =
        sym whole ∙ ap (λ (e : Ending). outcome_of limit (after_calls u.before e)) d.1 ∙ ap (λ (z : ℤ). (value z (limit - left), c)) d.2 ∙ ap (λ (s : ℕ). (value v s, c)) spent_is in
        let own = λ (q : ℕ) (e : name ≡ Some q). ap (λ (m : Option ℕ). named_run m x v (used - frame.below) frame.calls.items) e
        ∙ named_run-is q x v used frame.below frame.calls.items u.before u.stands.below (u.stands.calls (named.outermost q e)) ∙ ap (node_of q x (value v used)) (sym (join-none u.before)) in
        told_run ran name all x limit left answer made (value v used) c is outcome
        (λ k q e. are ∙ ap (λ (ns : List NodeRun). ns ++ named_run name x v (used - frame.below) frame.calls.items) (nodes_are (named.each k q e) ∙ ap nodes_in (sym (join-none u.before)))
        ∙ ap (λ (ns : List NodeRun). nodes_in c ++ ns) (own q e))
        (λ k q e. are ∙ ap (λ (ns : List NodeRun). ns ++ named_run name x v (used - frame.below) frame.calls.items) (u.alone (named.alone k)) ∙ own q e) (omega (arith, w, sum))

-- ---- what is kept

-- what is kept of a run under a name or none, where those of all runs are wanted or its own alone
abbrev pub keeping : Option ℕ → Bool → Keeping
keeping name all = record { outermost = is_some name; all = is_some name && all }

pub is_kept : (name : Option ℕ) (all : Bool) → IsNamed (keeping name all) name all
is_kept name all = record {
  outermost = λ q e. ap is_some e;
  each = λ k q e. ap (λ (b : Bool). b && all) (ap is_some e) ∙ k;
  alone = λ k. ap (λ (b : Bool). is_some name && b) k ∙ by (is_some name);
}
  where
    by : (b : Bool) → (b && false) ≡ false
    by true = refl
    by false = refl

keeps-last : (outermost each : Bool) (cs : List Caller) (c : Caller) → keeps outermost each (cs ++ c ∷ []) ≡ each
keeps-last outermost each [] c = refl
keeps-last outermost each (d ∷ ds) c = refl

-- in whichever order the callers stand
pub keeps-reverse : (outermost each : Bool) (cs : List Caller) → keeps outermost each (reverse cs) ≡ keeps outermost each cs
keeps-reverse outermost each [] = refl
keeps-reverse outermost each (c ∷ cs) = let last : List Caller = c ∷ [] in ap (keeps outermost each) (reverse-append last cs) ∙ keeps-last outermost each (reverse cs) c

-- ---- what the code has

pub moved : (lib : Library) (keep : Keeping) (limit : ℕ) (ran : Outcome × Calls) (prog : Text) (frame : Frame) (cs ds : List Caller) (ns ms : List NodeRun) (left : ℕ) → ds ≡ cs → ms ≡ ns → IsUnder lib keep limit ran prog frame cs ns left → IsUnder lib keep limit ran prog frame ds ms left
moved lib keep limit ran prog frame cs ds ns ms left ec en u =
    subst (λ (z : List Caller). IsUnder lib keep limit ran prog frame z ms left) (sym ec) (subst (λ (z : List NodeRun). IsUnder lib keep limit ran prog frame cs z left) (sym en) u)

-- the frame is what its box holds
pub framed : (lib : Library) (keep : Keeping) (limit : ℕ) (ran : Outcome × Calls) (prog : Text) (f g : Frame) (callers : List Caller) (nodes : List NodeRun) (n : ℕ) → g ≡ f → IsUnder lib keep limit ran prog f callers nodes n → IsUnder lib keep limit ran prog g callers nodes n
framed lib keep limit ran prog f g callers nodes n e u = subst (λ (z : Frame). IsUnder lib keep limit ran prog z callers nodes n) (sym e) u

-- the innermost caller waits, and its callee's steps fit
pub record CallerWaits (caller callee : Frame) (limit : ℕ) : Type 0 where
  pub waits : caller.machine.phase ≡ IsWaiting
  pub room : caller.below + callee.given ≤ limit

pub caller_waits : (lib : Library) (keep : Keeping) (limit : ℕ) (ran : Outcome × Calls) (prog : Text) (frame : Frame) (caller : Caller) (callers : List Caller) (nodes : List NodeRun) (left : ℕ) → IsUnder lib keep limit ran prog frame (caller ∷ callers) nodes left → CallerWaits caller.frame.value frame limit
caller_waits lib keep limit ran prog frame caller callers nodes left u = by_befores u.befores u.wait
  where
    by_befores : (bs : List Calls) → Wait keep limit frame.given (caller ∷ callers) bs → CallerWaits caller.frame.value frame limit
    by_befores [] w = absurd w
    by_befores (b ∷ bs) w = record {
      waits = w.1;
      room = (let a = w.0.within in let top = left_within keep limit caller.frame.value.given caller.frame.value.given callers bs (omega arith) w.2 in omega (arith, a, top));
    }

pub node_made : (lib : Library) (keep : Keeping) (limit : ℕ) (ran : Outcome × Calls) (prog : Text) (frame : Frame) (caller : Caller) (callers : List Caller) (nodes : List NodeRun) (n used : ℕ) (p : Pair) (v : ℤ) → (u : IsUnder lib keep limit ran prog frame (caller ∷ callers) nodes n)
    → IsTrue keep.all → IsNode p u.before v used (ended_run p v (used - frame.below) frame.calls.items)
node_made lib keep limit ran prog frame caller callers nodes n used p v u k = record {
  pair = refl;
  value = refl;
  own = ap (λ (b : ℕ). used - b) u.stands.below;
  calls = u.stands.calls k;
}

pub given_back : (lib : Library) (keep : Keeping) (limit : ℕ) (ran : Outcome × Calls) (prog : Text) (frame : Frame) (callers : List Caller) (nodes : List NodeRun) (n left : ℕ) → IsUnder lib keep limit ran prog frame callers nodes n → left ≤ n → (frame.given - left) + left ≡ frame.given
given_back lib keep limit ran prog frame callers nodes n left u le = let w = u.stands.within in omega (arith, w, le)
