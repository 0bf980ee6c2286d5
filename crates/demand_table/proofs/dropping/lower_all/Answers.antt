use Rattle.std.proofs.Common.{◌∙◌, sym, ap, subst, take, List, [], ◌∷◌, ◌++◌, arith}
use Rattle.loda_semantics.specs.declared.kinds.Pair.{Pair}
use Rattle.demand_table.specs.declared.work.Work.{Work}
use Rattle.demand_table.specs.Loaded.{slots_of}
use Rattle.demand_table.specs.Work.{AreLowered}
use Rattle.demand_table.proofs.Lowering.{IsMet, upto, met_more, was_new, was_met, still_called, lowered_again, lowered_pushed, lowered_left}
use Rattle.demand_table.proofs.dropping.lower_all.Goals as goal
use Rattle.demand_table.proofs.dropping.lower_all.Goals.{then-branch+in_ok-left+then-left-eq0+in_ok-push, then-branch+in_ok-left+else-left-eq0, else-branch}

pub lower-requires : goal.lower-requires
lower-requires c =
    let done = take c.loop-call.call-index c.args.calls.now in
    let call = c.call-item.result in
    let new = was_new c.loop-call.met done call c.in_ok-insert.field-0 c.loop-call.invariant.met c.in_ok-insert.ensures.added c.if-branch.true in
    still_called (slots_of c.args.known.now.pages.now c.args.work.now) (slots_of c.args.known.now.pages.now c.loop-call.work) done c.args.pending.now.items c.loop-call.pending.items call c.loop-call.invariant.lowered new
    (c.requires call (c.loop-call.call-index, c.loop-call-test.true, sym c.call-item.is))

pub loop-call-preserved : goal.loop-call-preserved
loop-call-preserved c =
    let old = slots_of c.args.known.now.pages.now c.args.work.now in
    let was = slots_of c.args.known.now.pages.now c.loop-call.work in
    let calls = c.args.calls.now in
    let call = c.call-item.result in
    let done = take c.loop-call.call-index calls in
    let pending = c.args.pending.now.items in
    let now = c.loop-call.pending.items in
    let h = c.loop-call.invariant.lowered in
    let e = upto calls c.loop-call.call-index call c.loop-call-test.true c.call-item.is in
    let at = λ (k : Work). AreLowered old (slots_of c.args.known.now.pages.now k) (done ++ call ∷ []) pending c.if-branch.pending.items in
    record {
      lowered = subst (λ (list : List Pair). AreLowered old (slots_of c.args.known.now.pages.now c.if-branch.work) list pending c.if-branch.pending.items) (sym e)
          (elim c.if-branch.branch [
            | then-branch+in_ok-left+then-left-eq0+in_ok-push w ↦
                subst at (sym w.work-is)
                (lowered_pushed old was (slots_of c.args.known.now.pages.now w.lower.new.work) done pending now c.if-branch.pending.items call w.in_ok-left.left h
                (was_new c.loop-call.met done call c.in_ok-insert.field-0 c.loop-call.invariant.met c.in_ok-insert.ensures.added w.if-branch.true)
                w.in_ok-left.ensures (ap (λ p. p.items) w.pending-is ∙ w.in_ok-push.ensures.items))
            | then-branch+in_ok-left+else-left-eq0 w ↦
                subst at (sym w.work-is)
                (lowered_left old was (slots_of c.args.known.now.pages.now w.lower.new.work) done pending now c.if-branch.pending.items call w.in_ok-left.left h
                (was_new c.loop-call.met done call c.in_ok-insert.field-0 c.loop-call.invariant.met c.in_ok-insert.ensures.added w.if-branch.true)
                w.in_ok-left.ensures (ap (λ p. p.items) w.pending-is) (λ e. let f = w.if-left-eq0.false in omega arith))
            | else-branch w ↦
                subst at (sym w.work-is)
                (subst (λ (l : List Pair). AreLowered old was (done ++ call ∷ []) pending l) (sym (ap (λ p. p.items) w.pending-is))
                (lowered_again old was done pending now call h
                (was_met c.loop-call.met done call c.in_ok-insert.field-0 c.loop-call.invariant.met c.in_ok-insert.ensures.added w.if-branch.false)))
          ]);
      met = subst (λ (list : List Pair). IsMet c.insert.new.self list) (sym e) (met_more c.loop-call.met c.insert.new.self done call c.in_ok-insert.ensures.updates c.loop-call.invariant.met);
    }
