use Rattle.std.proofs.Common.{subst}
use Rattle.program_store.specs.Store.{Store}
use Rattle.demand_table.specs.Loaded.{node_at}
use Rattle.demand_table.specs.Table.{IsDemandTable}
use Rattle.demand_table.proofs.Telling.{if_ok, lists}
use Rattle.demand_table.proofs.tables.Tables.demanded.Goals as goal

pub returns : goal.returns
returns c =
    let D = node_at c.self.inside.demand in
    let table : IsDemandTable c.args.self.now D = subst (λ (s : Store). IsDemandTable s D) c.self.view_is c.self.invariant.table in
    if_ok c.demanded.result _ _ (λ list h. lists c.args.self.now D table c.args.name list.items h) c.demanded.ensures
