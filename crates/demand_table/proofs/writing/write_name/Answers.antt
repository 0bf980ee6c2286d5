use Rattle.std.proofs.Common.{◌≡◌, sym, subst, List, rules}
use Rattle.std.specs.FinMap as map
use Rattle.loda_semantics.specs.declared.kinds.Pair.{Pair}
use Rattle.demand_table.specs.declared.node.Node.{Node}
use Rattle.demand_table.specs.Filed.{filed_at}
use Rattle.demand_table.specs.Loaded.{node_in}
use Rattle.demand_table.proofs.Filing.{filed_one}
use Rattle.demand_table.proofs.writing.write_name.Goals as goal

pub returns : goal.returns
returns c =
    let was = c.in-Some.folder.now in
    let nodes = c.in_ok-nodes.nodes in
    let put : c.in_ok-next.next ≡ map.insert c.args.folders c.args.name (record { first = was.first; checked = was.checked; nodes = nodes }) = search rules in
    let listed = subst (λ (l : List Node). (p : Pair) → node_in nodes p.arg ≡ filed_at c.args.slots (node_in l p.arg) p) c.list.ensures c.in_ok-nodes.ensures.nodes in
    filed_one c.args.folders c.in_ok-next.next c.args.name c.args.slots was nodes (sym c.in-Some.ensures.value) put listed c.in_ok-nodes.ensures.ascend
