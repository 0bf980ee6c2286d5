use Rattle.std.proofs.Common.{◌<◌, ◌≡◌, ◌∙◌, sym, ap, take, ℤ, List, [], ◌∷◌, ◌++◌, arith}
use Rattle.std.proofs.lemmas.List.{take_more, append-nil}
use Rattle.demand_table.specs.declared.node.Node.{Node}
use Rattle.demand_table.specs.Demanded.{called_here, called_in}
use Rattle.demand_table.proofs.Calling.{called_push, here_some, here_none}
use Rattle.demand_table.proofs.demanding.called.Goals as goal
use Rattle.demand_table.proofs.demanding.called.Goals.{then-node-gt0+in_ok-push, else-node-gt0}

pub loop-node-preserved : goal.loop-node-preserved
loop-node-preserved c =
    let nodes = c.args.nodes.now in
    let i = c.loop-node.node-index in
    let n = c.node-item.result in
    let done = take i nodes in
    let e = take_more nodes i n c.loop-node-test.true ∙ ap (λ (m : Node). done ++ m ∷ []) (sym c.node-item.is) in
    let grown : c.if-node-gt0.list.items ≡ called_in done ++ called_here n.callers n.arg = elim c.if-node-gt0.branch [
      | then-node-gt0+in_ok-push w ↦
          let t = w.if-node-gt0.true in
          let lt : 0 < n.callers = omega arith in
          ap (λ v. v.items) w.list-is ∙ w.in_ok-push.ensures.items ∙ ap (λ (l : List ℤ). l ++ n.arg ∷ []) c.loop-node.invariant
          ∙ ap (λ (l : List ℤ). called_in done ++ l) (sym (here_some n.callers n.arg lt))
      | else-node-gt0 w ↦
          let t = w.if-node-gt0.false in
          let none : n.callers ≡ 0 = omega arith in
          ap (λ v. v.items) w.list-is ∙ c.loop-node.invariant ∙ sym (append-nil (called_in done)) ∙ ap (λ (l : List ℤ). called_in done ++ l) (sym (here_none n.callers n.arg none))
    ] in
    grown ∙ sym (called_push done n) ∙ ap called_in (sym e)
