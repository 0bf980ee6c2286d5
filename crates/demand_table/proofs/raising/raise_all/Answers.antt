use Rattle.std.proofs.Common.{◌≡◌, ◌≤◌, ◌<◌, sym, ap, subst, arith, length, get_or, take, List, [], ◌∷◌, ◌++◌}
use Rattle.std.specs.Prelude.{OnOk}
use Rattle.std.specs.declared.result.Result.{Result}
use Rattle.std.specs.declared.result.Result.TheVariants.{Ok, Err}
use Rattle.std.specs.declared.alloc.AllocError.{AllocError}
use Rattle.loda_semantics.specs.declared.kinds.Pair.{Pair}
use Rattle.demand_table.specs.declared.work.Work.{Work}
use Rattle.demand_table.specs.Loaded.{slots_of}
use Rattle.demand_table.specs.Work.{AreRaised}
use Rattle.demand_table.proofs.Lowering.{IsMet, upto, met_more, was_new, was_met}
use Rattle.demand_table.proofs.Counts.{nil-cases}
use Rattle.demand_table.proofs.More.{raised_none, raised_again, raised_one}
use Rattle.demand_table.proofs.raising.raise_all.Goals as goal
use Rattle.demand_table.proofs.raising.raise_all.Goals.{then-branch+in_ok-raise, else-branch}

pub loop-call-preserved : goal.loop-call-preserved
loop-call-preserved c =
    let old = slots_of c.args.known.now.pages.now c.args.work.now in
    let was = slots_of c.args.known.now.pages.now c.loop-call.work in
    let calls = c.args.calls.now in
    let call = c.call-item-in-loop-call.result in
    let done = take c.loop-call.call-index calls in
    let h = c.loop-call.invariant.raised in
    let e = upto calls c.loop-call.call-index call c.loop-call-test.true c.call-item-in-loop-call.is in
    let at = λ (k : Work). AreRaised old (slots_of c.args.known.now.pages.now k) (done ++ call ∷ []) in
    record {
      raised = subst (λ (list : List Pair). AreRaised old (slots_of c.args.known.now.pages.now c.if-branch.work) list) (sym e)
          (elim c.if-branch.branch [
            | then-branch+in_ok-raise w ↦
                subst at (sym w.work-is)
                (raised_one old was done call h (slots_of c.args.known.now.pages.now w.raise-then-branch.new.work)
                (was_new c.loop-call.met done call c.in_ok-insert.field-0 c.loop-call.invariant.met c.in_ok-insert.ensures.added w.if-branch.true) w.in_ok-raise.ensures)
            | else-branch w ↦
                subst at (sym w.work-is)
                (raised_again old was done call h (was_met c.loop-call.met done call c.in_ok-insert.field-0 c.loop-call.invariant.met c.in_ok-insert.ensures.added w.if-branch.false))
          ]);
      met = subst (λ (list : List Pair). IsMet c.insert.new.self list) (sym e) (met_more c.loop-call.met c.insert.new.self done call c.in_ok-insert.ensures.updates c.loop-call.invariant.met);
    }

only : (calls : List Pair) (call : Pair) → 1 ≤ length calls → length calls < 2 → call ≡ get_or calls 0 call → calls ≡ call ∷ []
only [] call some few is = absurd (omega arith)
only (c ∷ []) call some few is = ap (λ (q : Pair). q ∷ []) (sym is)
only (c ∷ d ∷ ds) call some few is = absurd (omega arith)

if_ok : {P Q : Type 0} (r : Result (Unit {0}) AllocError) → (P → Q) → OnOk r P → OnOk r Q
if_ok (Ok u) f h = f h
if_ok (Err e) f h = tt

pub returns-in-len1 : goal.returns-in-len1
returns-in-len1 c =
    let old = slots_of c.args.known.now.pages.now c.args.work.now in
    let new = slots_of c.args.known.now.pages.now c.raise.new.work in
    let call = c.call-item.result in
    let is = only c.args.calls.now call c.in-len1.len_at_least c.in-len1.len_below c.call-item.is in
    if_ok c.raise.result (λ set. subst (λ (calls : List Pair). AreRaised old new calls) (sym is) (raised_one old old [] call (raised_none old) new (λ at. absurd (nil-cases call at)) set)) c.raise.ensures
