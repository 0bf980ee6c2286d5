use Rattle.std.proofs.Common.{ℕ, ◌∙◌, sym, subst, take, List, [], ◌∷◌, ◌++◌, Bool, true, false}
use Rattle.loda_semantics.specs.declared.kinds.Pair.{Pair}
use Rattle.seq_calls.specs.declared.outcomes.NodeRun.{NodeRun}
use Rattle.demand_table.specs.declared.work.Work.{Work}
use Rattle.demand_table.specs.Work.{AreRaised}
use Rattle.demand_table.specs.Loaded.{slots_of}
use Rattle.demand_table.specs.Mending.{IsMending, IsPlaced}
use Rattle.demand_table.proofs.Placing.{mended_none, mended_again, mended_more, runs_upto}
use Rattle.demand_table.proofs.mending.put_all.Goals as goal
use Rattle.demand_table.proofs.mending.put_all.Goals.{then-branch+in_ok-raise_all+in_ok-stand, else-branch}

pub loop-run-init : goal.loop-run-init
loop-run-init c = mended_none (slots_of c.args.known.now.pages.now c.args.work.now) c.args.pending.now.items c.args.many c.requires.counted c.requires.many

pub loop-run-preserved : goal.loop-run-preserved
loop-run-preserved c =
    let old = slots_of c.args.known.now.pages.now c.args.work.now in
    let was = slots_of c.args.known.now.pages.now c.loop-run.work in
    let mid = slots_of c.args.known.now.pages.now c.put.new.work in
    let runs = c.args.runs.now in
    let r = c.run-item.result in
    let done = take c.loop-run.run-index runs in
    let pending = c.args.pending.now.items in
    let now = c.loop-run.pending.items in
    let after = c.push.new.self.items in
    let stand = c.loop-run.stand in
    let h = c.loop-run.invariant in
    let e = runs_upto runs c.loop-run.run-index r c.loop-run-test.true c.run-item.is in
    let grown = c.in_ok-push.ensures.items in
    subst (λ (l : List NodeRun). IsMending old (slots_of c.args.known.now.pages.now c.if-branch.work) l pending after c.if-branch.stand) (sym e)
    (elim c.if-branch.branch [
      | then-branch+in_ok-raise_all+in_ok-stand w ↦
          let new = slots_of c.args.known.now.pages.now w.raise_all.new.work in
          let kept : IsPlaced was mid r true = subst (λ (b : Bool). IsPlaced was mid r b) w.if-branch.true c.in_ok-put.ensures in
          let raised : AreRaised mid new r.calls = subst (λ (l : List Pair). AreRaised mid new l) w.list.ensures w.in_ok-raise_all.ensures in
          let all = mended_more old was done pending now after stand r h grown mid new kept raised in
          subst (λ (k : Work). IsMending old (slots_of c.args.known.now.pages.now k) (done ++ r ∷ []) pending after c.if-branch.stand) (sym w.work-is)
          (subst (λ (n : ℕ). IsMending old new (done ++ r ∷ []) pending after n) (sym (w.stand-is ∙ w.in_ok-stand.ensures)) all)
      | else-branch w ↦
          let kept : IsPlaced was mid r false = subst (λ (b : Bool). IsPlaced was mid r b) w.if-branch.false c.in_ok-put.ensures in
          let all = mended_again old was done pending now after stand r h grown mid kept in
          subst (λ (k : Work). IsMending old (slots_of c.args.known.now.pages.now k) (done ++ r ∷ []) pending after c.if-branch.stand) (sym w.work-is)
          (subst (λ (n : ℕ). IsMending old mid (done ++ r ∷ []) pending after n) (sym w.stand-is) all)
    ])
