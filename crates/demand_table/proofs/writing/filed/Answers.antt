use Rattle.std.proofs.Common.{◌≡◌, ◌∙◌, ap, rules}
use Rattle.std.specs.FinMap as map
use Rattle.std.specs.declared.option.Option.{Option}
use Rattle.loda_semantics.specs.declared.kinds.Pair.{Pair}
use Rattle.demand_table.specs.declared.node.Node.{Node}
use Rattle.demand_table.specs.Filed.{filed_at}
use Rattle.demand_table.specs.Loaded.{node_in, node_at}
use Rattle.demand_table.proofs.Filing.{filed_checks, filed_nodes, filed_ascend}
use Rattle.demand_table.proofs.writing.filed.Goals as goal

pub returns-clause-checks : goal.returns-clause-checks
returns-clause-checks c =
    let first = c.args.known.now.pages.now in
    let nodes = c.in_ok-nodes.nodes in
    let put : c.in_ok-next.next ≡ map.insert c.in_ok-rest.rest c.args.name (record { first = c.args.range.first; checked = c.args.range.checked; nodes = nodes }) = search rules in
    let listed : (p : Pair) → p.name ≡ c.args.name → node_in nodes p.arg ≡ filed_at c.take_name-slots.result (node_at first p) p =
    λ p e. c.in_ok-nodes.ensures.nodes p ∙ ap (λ (o : Option Node). filed_at c.take_name-slots.result o p) (c.old_nodes-old.ensures.nodes p e) in
    filed_checks first c.in_ok-rest.rest c.in_ok-next.next c.args.work c.take_name-slots.new.work c.args.name c.args.range c.take_name-slots.result nodes
    c.take_name-slots.ensures.slots c.take_name-slots.ensures.others listed c.in_ok-nodes.ensures.ascend c.in_ok-rest.ensures put

pub returns-clause-nodes : goal.returns-clause-nodes
returns-clause-nodes c =
    let first = c.args.known.now.pages.now in
    let nodes = c.in_ok-nodes.nodes in
    let put : c.in_ok-next.next ≡ map.insert c.in_ok-rest.rest c.args.name (record { first = c.args.range.first; checked = c.args.range.checked; nodes = nodes }) = search rules in
    let listed : (p : Pair) → p.name ≡ c.args.name → node_in nodes p.arg ≡ filed_at c.take_name-slots.result (node_at first p) p =
    λ p e. c.in_ok-nodes.ensures.nodes p ∙ ap (λ (o : Option Node). filed_at c.take_name-slots.result o p) (c.old_nodes-old.ensures.nodes p e) in
    filed_nodes first c.in_ok-rest.rest c.in_ok-next.next c.args.work c.take_name-slots.new.work c.args.name c.args.range c.take_name-slots.result nodes
    c.take_name-slots.ensures.slots c.take_name-slots.ensures.others listed c.in_ok-nodes.ensures.ascend c.in_ok-rest.ensures put

pub returns-clause-ascend : goal.returns-clause-ascend
returns-clause-ascend c =
    let first = c.args.known.now.pages.now in
    let nodes = c.in_ok-nodes.nodes in
    let put : c.in_ok-next.next ≡ map.insert c.in_ok-rest.rest c.args.name (record { first = c.args.range.first; checked = c.args.range.checked; nodes = nodes }) = search rules in
    let listed : (p : Pair) → p.name ≡ c.args.name → node_in nodes p.arg ≡ filed_at c.take_name-slots.result (node_at first p) p =
    λ p e. c.in_ok-nodes.ensures.nodes p ∙ ap (λ (o : Option Node). filed_at c.take_name-slots.result o p) (c.old_nodes-old.ensures.nodes p e) in
    filed_ascend first c.in_ok-rest.rest c.in_ok-next.next c.args.work c.take_name-slots.new.work c.args.name c.args.range c.take_name-slots.result nodes
    c.take_name-slots.ensures.slots c.take_name-slots.ensures.others listed c.in_ok-nodes.ensures.ascend c.in_ok-rest.ensures put
