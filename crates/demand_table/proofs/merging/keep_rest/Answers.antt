use Rattle.std.proofs.Common.{◌≡◌, ◌∙◌, ap, [], ◌∷◌, ◌++◌, drop}
use Rattle.demand_table.specs.declared.node.Node.{Node}
use Rattle.demand_table.proofs.Merge_steps.{all_more, all_kept}
use Rattle.demand_table.proofs.merging.keep_rest.Goals as goal

pub loop-at-preserved : goal.loop-at-preserved
loop-at-preserved c =
    let old = c.args.old.now in
    let n = c.index-old-at.result in
    let nodes = c.loop-at.nodes.items in
    let grown : c.push.new.self.items ≡ nodes ++ n ∷ [] = c.in_ok-push.ensures.items ∙ ap (λ (m : Node). nodes ++ m ∷ []) c.in_ok-kept.ensures in
    all_more old c.loop-at.at n c.loop-at-test.true c.index-old-at.is nodes c.push.new.self.items (c.args.nodes.now.items ++ drop c.args.from old) grown c.loop-at.invariant

pub returns : goal.returns
returns c =
    let old = c.args.old.now in
    all_kept old c.loop-at.at c.loop-at-test.false c.loop-at.nodes.items (c.args.nodes.now.items ++ drop c.args.from old) c.loop-at.invariant
