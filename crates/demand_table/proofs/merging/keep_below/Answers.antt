use Rattle.std.proofs.Common.{◌≡◌, ◌∙◌, ap, ◌<ℤ◌, ◌≤ℤ◌, [], ◌∷◌, ◌++◌, drop, rules}
use Rattle.demand_table.specs.declared.node.Node.{Node}
use Rattle.demand_table.specs.Written.{nodes_below, not_below}
use Rattle.demand_table.proofs.Merge_steps.{no_less, kept_more, rest_more, kept_end, rest_end, kept_all, rest_all}
use Rattle.demand_table.proofs.merging.keep_below.Goals as goal

pub returns-then-get-clause-nodes : goal.returns-then-get-clause-nodes
returns-then-get-clause-nodes c =
    let k = c.args.arg in
    let old = c.args.old.now in
    let n = c.index-old-at.result in
    let more : k ≤ℤ n.arg = search rules in
    kept_end old c.loop-at.at n c.loop-at-test.true c.index-old-at.is c.loop-at.nodes.items (c.args.nodes.now.items ++ nodes_below k (drop c.args.from old)) k (no_less n.arg k more) c.loop-at.invariant.nodes

pub returns-then-get-clause-rest : goal.returns-then-get-clause-rest
returns-then-get-clause-rest c =
    let k = c.args.arg in
    let old = c.args.old.now in
    let n = c.index-old-at.result in
    let more : k ≤ℤ n.arg = search rules in
    rest_end old c.loop-at.at n c.loop-at-test.true c.index-old-at.is k (not_below k (drop c.args.from old)) (no_less n.arg k more) c.loop-at.invariant.rest

pub loop-at-preserved : goal.loop-at-preserved
loop-at-preserved c =
    let k = c.args.arg in
    let old = c.args.old.now in
    let n = c.index-old-at.result in
    let nodes = c.loop-at.nodes.items in
    let less : n.arg <ℤ k = search rules in
    let grown : c.push.new.self.items ≡ nodes ++ n ∷ [] = c.in_ok-push.ensures.items ∙ ap (λ (m : Node). nodes ++ m ∷ []) c.in_ok-kept.ensures in
    record {
      nodes = kept_more old c.loop-at.at n c.loop-at-test.true c.index-old-at.is nodes c.push.new.self.items (c.args.nodes.now.items ++ nodes_below k (drop c.args.from old)) k less grown c.loop-at.invariant.nodes;
      rest = rest_more old c.loop-at.at n c.loop-at-test.true c.index-old-at.is k (not_below k (drop c.args.from old)) less c.loop-at.invariant.rest;
    }

pub returns-clause-nodes : goal.returns-clause-nodes
returns-clause-nodes c =
    let k = c.args.arg in
    let old = c.args.old.now in
    kept_all old c.loop-at.at c.loop-at-test.false c.loop-at.nodes.items (c.args.nodes.now.items ++ nodes_below k (drop c.args.from old)) k c.loop-at.invariant.nodes

pub returns-clause-rest : goal.returns-clause-rest
returns-clause-rest c =
    let k = c.args.arg in
    let old = c.args.old.now in
    rest_all old c.loop-at.at c.loop-at-test.false k (not_below k (drop c.args.from old)) c.loop-at.invariant.rest
