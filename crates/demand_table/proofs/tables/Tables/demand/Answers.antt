use Rattle.std.proofs.Common.{ℕ, ◌≡◌, subst}
use Rattle.program_store.specs.Store.{Store}
use Rattle.demand_table.specs.Loaded.{node_at, checks_of}
use Rattle.demand_table.specs.Table.{checks_in_store, IsDemandTable}
use Rattle.demand_table.proofs.tables.Tables.demand.Goals as goal

pub returns-clause-checks : goal.returns-clause-checks
returns-clause-checks c = subst (λ (s : Store). (name : ℕ) → checks_of c.self.inside.demand name ≡ checks_in_store s name) c.self.view_is c.self.invariant.checks

pub returns-clause-table : goal.returns-clause-table
returns-clause-table c = subst (λ (s : Store). IsDemandTable s (node_at c.self.inside.demand)) c.self.view_is c.self.invariant.table
