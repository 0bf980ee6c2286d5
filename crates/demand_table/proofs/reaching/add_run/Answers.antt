use Rattle.std.proofs.Common.{◌+◌, ◌∙◌, sym, ap, subst, take, List, Contains}
use Rattle.text_parts.specs.Names.{IsName}
use Rattle.loda_semantics.specs.declared.kinds.Pair.{Pair}
use Rattle.demand_table.specs.Upward.{names_filed_under}
use Rattle.demand_table.specs.Reaching.{Index, Grows}
use Rattle.demand_table.proofs.Lowering.{upto}
use Rattle.demand_table.proofs.Reached.{IsReaching, reaching_more, was_met_call}
use Rattle.demand_table.proofs.reaching.add_run.Goals as goal
use Rattle.demand_table.proofs.reaching.add_run.Goals.{then-branch+in_ok-next, else-branch}

pub loop-call-preserved : goal.loop-call-preserved
loop-call-preserved c =
    let first = c.args.callers in
    let was = c.loop-call.next in
    let calls = c.list-call-items.result.now in
    let from = c.args.run.now.pair.name in
    let call = c.call-item.result in
    let done = take c.loop-call.call-index calls in
    let e = upto calls c.loop-call.call-index call c.loop-call-test.true c.call-item.is in
    let inv = subst (λ (l : List Pair). IsReaching first was c.loop-call.met from (take c.loop-call.call-index l)) (sym c.list-call-items.ensures) c.loop-call.invariant in
    let both : Grows was c.if-branch.next × (IsName call.name → Contains (names_filed_under c.if-branch.next call.name) from) = elim c.if-branch.branch [
      | then-branch+in_ok-next w ↦
          subst (λ (k : Index). Grows was k × (IsName call.name → Contains (names_filed_under k call.name) from)) (sym w.next-is) (w.in_ok-next.ensures.grows, w.in_ok-next.ensures.here)
      | else-branch w ↦
          subst (λ (k : Index). Grows was k × (IsName call.name → Contains (names_filed_under k call.name) from)) (sym w.next-is)
          (λ to from at. at, was_met_call c.loop-call.met was call.name from c.in_ok-insert.field-0 c.loop-call.invariant.met_calls c.in_ok-insert.ensures.added w.if-branch.false)
    ] in
    subst (λ (l : List Pair). IsReaching first c.if-branch.next c.insert.new.self from l) (sym e ∙ ap (take (c.loop-call.call-index + 1)) c.list-call-items.ensures)
    (reaching_more first was c.if-branch.next c.loop-call.met c.insert.new.self from done call inv c.in_ok-insert.ensures.updates both.0 both.1)
