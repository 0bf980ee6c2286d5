use Rattle.std.proofs.Common.{Bool, IsTrue, ℕ, ◌+◌, ◌-◌, ◌≡◌, refl, sym, ap, subst, ◌∙◌, arith, List, [], ◌∷◌, ◌++◌, length, take, append-nil, length-append}
use Rattle.std.specs.Prelude.{reverse, vec_len}
use Rattle.std.specs.Option.{option_copied}
use Rattle.std.proofs.lemmas.List.{reverse-append}
use Rattle.lex_loops.specs.declared.stop.Stop.{Stop}
use Rattle.lex_loops.specs.State.{Advances, phase_after}
use Rattle.seq_calls.specs.declared.unfinished.Caller.{Caller}
use Rattle.seq_calls.specs.declared.unfinished.Frame.{Frame}
use Rattle.seq_calls.specs.Under.{keeps}
use Rattle.seq_calls.proofs.Costs.{call_costs}
use Rattle.seq_calls.proofs.Under.{begins, caller_of, called, answered, missing, faulted, ran_out, finished, moved, framed, caller_waits, node_made, given_back, keeping, is_kept, keeps-reverse}
use Rattle.seq_calls.proofs.evaluation.run_frames.Goals as goal

-- the last caller of the list is the innermost
top : (callers rest : List Caller) (caller : Caller) → callers ≡ rest ++ caller ∷ [] → reverse callers ≡ caller ∷ reverse rest
top callers rest caller is = ap (λ (xs : List Caller). reverse xs) is ∙ reverse-append rest (caller ∷ [])

one_more : (callers rest : List Caller) (made : Caller) → callers ≡ rest ++ made ∷ [] → length callers ≡ length rest + 1
one_more callers rest made is = ap (λ (xs : List Caller). length xs) is ∙ length-append rest (made ∷ [])

-- there was no caller to pop
nothing : (callers rest : List Caller) (n : ℕ) → n ≡ 0 → callers ≡ rest ++ [] → rest ≡ take (n - 1) callers → [] ≡ reverse callers
nothing callers rest n none is left =
    let empty : callers ≡ [] = is ∙ append-nil rest ∙ left ∙ ap (λ (m : ℕ). take (m - 1) callers) none in
    ap (λ (xs : List Caller). reverse xs) (sym empty)

pub loop-frame-init : goal.loop-frame-init
loop-frame-init g c =
    let e = c.in_ok-frame.ensures in
    record {
      under = moved (g.B.Library.programs c.args.lib.now) (keeping c.args.name c.args.all) c.args.budget.now _ _ c.in_ok-frame.frame.value [] _ [] _ c.args.budget.now (ap (λ (xs : List Caller). reverse xs) c.new-callers.ensures.items) c.clear.ensures.items
          (begins (g.B.Library.programs c.args.lib.now) (keeping c.args.name c.args.all) c.args.budget.now c.args.arg c.args.program.now c.in_ok-frame.frame.value e.begins e.text e.phase e.given e.calls e.below);
      within = omega arith;
      limit = refl;
      name = refl;
      named = c.is_some-named.ensures;
      kept = c.are_kept-kept.ensures;
      last = tt;
    }

pub returns-in_default-clause-run : goal.returns-in_default-clause-run
returns-in_default-clause-run g c =
    missing (g.B.Library.programs c.args.lib.now) (keeping c.args.name c.args.all) c.args.budget.now _ c.args.name c.args.all (is_kept c.args.name c.args.all) c.args.arg _ c.deref_mut.result.now (reverse c.loop-frame.callers.items) c.loop-frame.finished.nodes.items c.loop-frame.budget c.advance.new.budget
    c.in-Call.name c.in-Call.arg c.advance.new.self _ _ (framed _ _ _ _ _ _ _ _ _ _ c.deref_mut.ensures.value c.loop-frame.invariant.under) c.in_ok-name.ensures.budget
    (subst (λ (s : Stop). Advances c.deref_mut.result.now.machine c.loop-frame.budget s c.advance.new.budget c.advance.new.self) c.in-Call.is c.in_ok-name.ensures.stops)
    (sym c.found.ensures.program ∙ ap option_copied c.in_default.is) c.failed.ensures refl

pub loop-frame-preserved-in-Call : goal.loop-frame-preserved-in-Call
loop-frame-preserved-in-Call g c =
    let e = c.in_ok-callee-in-Call.ensures in
    let caller : Caller = caller_of c.loop-frame.text c.loop-frame.frame c.deref_mut.result.now c.advance.new.self c.in-Call.name c.in-Call.arg in
    record {
      under = moved (g.B.Library.programs c.args.lib.now) (keeping c.args.name c.args.all) c.args.budget.now _ _ c.in_ok-callee-in-Call.callee.value (caller ∷ reverse c.loop-frame.callers.items) _ c.loop-frame.finished.nodes.items c.loop-frame.finished.nodes.items c.advance.new.budget
          (top c.push.new.self.items c.loop-frame.callers.items caller c.in_ok-push-in-Call.ensures.items) refl
          (called (g.B.Library.programs c.args.lib.now) (keeping c.args.name c.args.all) c.args.budget.now _ c.loop-frame.text c.loop-frame.frame c.deref_mut.result.now c.in_ok-callee-in-Call.callee.value (reverse c.loop-frame.callers.items) c.loop-frame.finished.nodes.items c.loop-frame.budget c.advance.new.budget
          c.in-Call.name c.in-Call.arg c.in-Some.program.now c.advance.new.self (framed _ _ _ _ _ _ _ _ _ _ c.deref_mut.ensures.value c.loop-frame.invariant.under)
          (subst (λ (s : Stop). Advances c.deref_mut.result.now.machine c.loop-frame.budget s c.advance.new.budget c.advance.new.self) c.in-Call.is c.in_ok-name.ensures.stops)
          c.in_ok-name.ensures.budget c.in_ok-name.ensures.program (c.in_ok-name.ensures.phase ∙ ap phase_after c.in-Call.is)
          (sym c.found.ensures.program ∙ ap option_copied c.in-Some.is) e.begins e.text e.phase e.given e.calls e.below);
      within = (let a = c.in_ok-name.ensures.budget in let b = c.loop-frame.invariant.within in omega (arith, a, b));
      limit = refl;
      name = c.loop-frame.invariant.name;
      named = c.loop-frame.invariant.named;
      kept = c.loop-frame.invariant.kept;
      last = c.found.ensures.last;
    }

pub loop-frame-smaller-in-Call : goal.loop-frame-smaller-in-Call
loop-frame-smaller-in-Call g c =
    let fewer = call_costs c.deref_mut.result.now.machine c.advance.new.self c.loop-frame.budget c.advance.new.budget c.in-Call.name c.in-Call.arg
    (subst (λ (s : Stop). Advances c.deref_mut.result.now.machine c.loop-frame.budget s c.advance.new.budget c.advance.new.self) c.in-Call.is c.in_ok-name.ensures.stops) in
    let more = one_more c.push.new.self.items c.loop-frame.callers.items (caller_of c.loop-frame.text c.loop-frame.frame c.deref_mut.result.now c.advance.new.self c.in-Call.name c.in-Call.arg) c.in_ok-push-in-Call.ensures.items in
    omega (arith, fewer, more)

pub returns-in_default-pop-clause-run : goal.returns-in_default-pop-clause-run
returns-in_default-pop-clause-run g c =
    let e = c.in_default-pop.ensures in
    let left = c.advance.new.budget in
    let used = c.deref.result.now.given - left in
    let given = ap (λ (f : Frame). f.given) c.deref.ensures in
    let u = moved (g.B.Library.programs c.args.lib.now) (keeping c.args.name c.args.all) c.args.budget.now _ _ c.deref_mut.result.now (reverse c.loop-frame.callers.items) [] c.loop-frame.finished.nodes.items c.loop-frame.finished.nodes.items c.loop-frame.budget (nothing c.loop-frame.callers.items c.pop.new.self.items (vec_len c.loop-frame.callers) e.cases.0 e.items e.rest) refl (framed _ _ _ _ _ _ _ _ _ _ c.deref_mut.ensures.value c.loop-frame.invariant.under) in
    let stops = subst (λ (s : Stop). Advances c.deref_mut.result.now.machine c.loop-frame.budget s left c.advance.new.self) c.in-Done.is c.in_ok-name.ensures.stops in
    let back = given_back _ _ _ _ _ _ _ _ c.loop-frame.budget left u c.in_ok-name.ensures.budget in
    let sum : used + left ≡ c.deref_mut.result.now.given = omega (arith, given, back) in
    finished (g.B.Library.programs c.args.lib.now) (keeping c.args.name c.args.all) c.args.budget.now _ c.args.name c.args.all (is_kept c.args.name c.args.all) c.args.arg _ c.deref_mut.result.now c.loop-frame.finished.nodes.items c.loop-frame.budget left used
    c.in-Done.value c.advance.new.self _ _ u stops sum refl c.in_ok-take_outermost-in-Done.ensures

pub go_on-requires-clause-waits : goal.go_on-requires-clause-waits
go_on-requires-clause-waits g c =
    let above = top c.loop-frame.callers.items c.pop.new.self.items c.in-Some-pop.caller c.in-Some-pop.ensures.items in
    let waits = caller_waits (g.B.Library.programs c.args.lib.now) (keeping c.args.name c.args.all) c.args.budget.now _ _ c.deref_mut.result.now c.in-Some-pop.caller (reverse c.pop.new.self.items) c.loop-frame.finished.nodes.items c.loop-frame.budget
    (moved _ _ _ _ _ _ _ _ _ _ _ (sym above) refl (framed _ _ _ _ _ _ _ _ _ _ c.deref_mut.ensures.value c.loop-frame.invariant.under)) in
    ap (λ (f : Frame). f.machine.phase) c.deref_mut-in-Done.ensures.value ∙ waits.waits

pub go_on-requires-clause-room : goal.go_on-requires-clause-room
go_on-requires-clause-room g c =
    let above = top c.loop-frame.callers.items c.pop.new.self.items c.in-Some-pop.caller c.in-Some-pop.ensures.items in
    let waits = caller_waits (g.B.Library.programs c.args.lib.now) (keeping c.args.name c.args.all) c.args.budget.now _ _ c.deref_mut.result.now c.in-Some-pop.caller (reverse c.pop.new.self.items) c.loop-frame.finished.nodes.items c.loop-frame.budget
    (moved _ _ _ _ _ _ _ _ _ _ _ (sym above) refl (framed _ _ _ _ _ _ _ _ _ _ c.deref_mut.ensures.value c.loop-frame.invariant.under)) in
    let below = ap (λ (f : Frame). f.below) c.deref_mut-in-Done.ensures.value in
    let given = ap (λ (f : Frame). f.given) c.deref.ensures in
    omega (arith, below, given, waits.room, c.type_inv.limit.fits)

pub loop-frame-preserved : goal.loop-frame-preserved
loop-frame-preserved g c =
    let above = top c.loop-frame.callers.items c.pop.new.self.items c.in-Some-pop.caller c.in-Some-pop.ensures.items in
    let rest = reverse c.pop.new.self.items in
    let u = moved (g.B.Library.programs c.args.lib.now) (keeping c.args.name c.args.all) c.args.budget.now _ _ c.deref_mut.result.now (reverse c.loop-frame.callers.items) (c.in-Some-pop.caller ∷ rest) c.loop-frame.finished.nodes.items c.loop-frame.finished.nodes.items c.loop-frame.budget (sym above) refl (framed _ _ _ _ _ _ _ _ _ _ c.deref_mut.ensures.value c.loop-frame.invariant.under) in
    let e = c.in_ok-go_on-in-Done.ensures in
    let used = c.deref.result.now.given - c.advance.new.budget in
    let given = ap (λ (f : Frame). f.given) c.deref.ensures in
    let back = given_back _ _ _ _ _ _ _ _ c.loop-frame.budget c.advance.new.budget u c.in_ok-name.ensures.budget in
    let sum : used + c.advance.new.budget ≡ c.deref_mut.result.now.given = omega (arith, given, back) in
    let keep = keeping c.args.name c.args.all in
    let kept_of : IsTrue (keeps keep.outermost keep.all rest) → IsTrue c.keeps_calls-keeps.result = λ k.
    let items = c.pop.new.self.items in
    let first : c.keeps_calls-keeps.result ≡ keeps c.is_some-named.result c.are_kept-kept.result c.deref-in-Done.result.now = c.keeps_calls-keeps.ensures in
    first ∙ ap (λ (cs : List Caller). keeps c.is_some-named.result c.are_kept-kept.result cs) c.deref-in-Done.ensures.value ∙ ap (λ (b : Bool). keeps b c.are_kept-kept.result items) c.loop-frame.invariant.named ∙ ap (λ (b : Bool). keeps keep.outermost b items) c.loop-frame.invariant.kept
    ∙ sym (keeps-reverse keep.outermost keep.all items) ∙ k in
    record {
      under = moved (g.B.Library.programs c.args.lib.now) (keeping c.args.name c.args.all) c.args.budget.now _ _ c.go_on.new.self rest rest _ _ c.advance.new.budget refl refl
          (answered (g.B.Library.programs c.args.lib.now) (keeping c.args.name c.args.all) c.args.budget.now _ _ c.deref_mut.result.now c.go_on.new.self c.in-Some-pop.caller rest c.loop-frame.finished.nodes.items _ c.loop-frame.budget c.advance.new.budget used
          c.in-Done.value c.advance.new.self u
          (subst (λ (s : Stop). Advances c.deref_mut.result.now.machine c.loop-frame.budget s c.advance.new.budget c.advance.new.self) c.in-Done.is c.in_ok-name.ensures.stops)
          sum
          c.deref_mut-in-Done.result.now c.deref_mut-in-Done.ensures.value e.answer e.ready e.text e.given (λ k. e.calls (kept_of k)) e.below
          (node_made _ _ _ _ _ _ _ _ _ _ _ c.in-Some-pop.caller.call _ u) _ (λ k. c.in_ok-take-in-Done.ensures.kept (c.loop-frame.invariant.kept ∙ k)) (λ k. c.in_ok-take-in-Done.ensures.alone (c.loop-frame.invariant.kept ∙ k)));
      within = (let a = c.in_ok-name.ensures.budget in let b = c.loop-frame.invariant.within in omega (arith, a, b));
      limit = refl;
      name = c.loop-frame.invariant.name;
      named = c.loop-frame.invariant.named;
      kept = c.loop-frame.invariant.kept;
      last = c.loop-frame.invariant.last;
    }

pub returns-in-Fault-clause-run : goal.returns-in-Fault-clause-run
returns-in-Fault-clause-run g c =
    faulted (g.B.Library.programs c.args.lib.now) (keeping c.args.name c.args.all) c.args.budget.now _ c.args.name c.args.all (is_kept c.args.name c.args.all) c.args.arg _ c.deref_mut.result.now (reverse c.loop-frame.callers.items) c.loop-frame.finished.nodes.items c.loop-frame.budget c.advance.new.budget
    c.in-Fault.kind c.advance.new.self _ _ (framed _ _ _ _ _ _ _ _ _ _ c.deref_mut.ensures.value c.loop-frame.invariant.under) c.in_ok-name.ensures.budget
    (subst (λ (s : Stop). Advances c.deref_mut.result.now.machine c.loop-frame.budget s c.advance.new.budget c.advance.new.self) c.in-Fault.is c.in_ok-name.ensures.stops)
    c.failed-in-Fault.ensures refl

pub returns-in-Spent-clause-run : goal.returns-in-Spent-clause-run
returns-in-Spent-clause-run g c =
    ran_out (g.B.Library.programs c.args.lib.now) (keeping c.args.name c.args.all) c.args.budget.now _ c.args.name c.args.all (is_kept c.args.name c.args.all) c.args.arg _ c.deref_mut.result.now (reverse c.loop-frame.callers.items) c.loop-frame.finished.nodes.items c.loop-frame.budget c.advance.new.budget
    c.advance.new.self _ _ (framed _ _ _ _ _ _ _ _ _ _ c.deref_mut.ensures.value c.loop-frame.invariant.under) c.in_ok-name.ensures.budget
    (subst (λ (s : Stop). Advances c.deref_mut.result.now.machine c.loop-frame.budget s c.advance.new.budget c.advance.new.self) c.in-Spent.is c.in_ok-name.ensures.stops)
    refl refl
