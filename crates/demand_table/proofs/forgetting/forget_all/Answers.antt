use Rattle.std.proofs.Common.{ℕ, ◌∙◌, sym, ap, subst, take, List, [], ◌∷◌, ◌++◌, Bool, true, false}
use Rattle.loda_semantics.specs.declared.kinds.Pair.{Pair}
use Rattle.demand_table.specs.Loaded.{slots_of}
use Rattle.demand_table.specs.Mending.{IsForgetting, IsForgot}
use Rattle.demand_table.proofs.Lowering.{upto}
use Rattle.demand_table.proofs.Forgotten.{forgotten_none, forgot_again, forgot_more}
use Rattle.demand_table.proofs.forgetting.forget_all.Goals as goal
use Rattle.demand_table.proofs.forgetting.forget_all.Goals.{then-branch+in_ok-push+in_ok-many, else-branch}

pub loop-pair-init : goal.loop-pair-init
loop-pair-init c = forgotten_none (slots_of c.args.known.now.pages.now c.args.work.now) c.args.unsettled.now.items c.requires.settled c.requires.none

pub loop-pair-preserved : goal.loop-pair-preserved
loop-pair-preserved c =
    let old = slots_of c.args.known.now.pages.now c.args.work.now in
    let was = slots_of c.args.known.now.pages.now c.loop-pair.work in
    let new = slots_of c.args.known.now.pages.now c.forget.new.work in
    let pairs = c.args.pairs.now in
    let p = c.pair-item.result in
    let done = take c.loop-pair.pair-index pairs in
    let listed = c.loop-pair.unsettled.items in
    let after = c.if-branch.unsettled.items in
    let many = c.loop-pair.many in
    let h = c.loop-pair.invariant in
    let e = upto pairs c.loop-pair.pair-index p c.loop-pair-test.true c.pair-item.is in
    subst (λ (l : List Pair). IsForgetting old new l after c.if-branch.many) (sym e)
    (elim c.if-branch.branch [
      | then-branch+in_ok-push+in_ok-many w ↦
          let forgot : IsForgot was new p true = subst (λ (b : Bool). IsForgot was new p b) w.if-branch.true c.in_ok-forget.ensures in
          subst (λ (n : ℕ). IsForgetting old new (done ++ p ∷ []) after n) (sym (w.many-is ∙ w.in_ok-many.ensures))
          (forgot_more old was new done listed after many p h forgot (ap (λ v. v.items) w.unsettled-is ∙ w.in_ok-push.ensures.items))
      | else-branch w ↦
          let kept : IsForgot was new p false = subst (λ (b : Bool). IsForgot was new p b) w.if-branch.false c.in_ok-forget.ensures in
          subst (λ (n : ℕ). IsForgetting old new (done ++ p ∷ []) after n) (sym w.many-is)
          (subst (λ (l : List Pair). IsForgetting old new (done ++ p ∷ []) l many) (sym (ap (λ v. v.items) w.unsettled-is)) (forgot_again old was new done listed after many p h kept))
    ])
