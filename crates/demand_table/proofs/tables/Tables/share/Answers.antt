use Rattle.std.proofs.Common.{sym, subst}
use Rattle.program_store.specs.Store.{Store}
use Rattle.demand_table.specs.Loaded.{Folders}
use Rattle.demand_table.specs.Tabled.{IsTabled}
use Rattle.demand_table.proofs.tables.Tables.share.Goals as goal

pub invariant_of-result : goal.invariant_of-result
invariant_of-result c =
    subst (λ (s : Store). IsTabled s c.in_ok-demand.demand) (sym c.in_ok-programs.ensures)
    (subst (λ (f : Folders). IsTabled c.self.inside.programs f) (sym c.in_ok-demand.ensures) c.self.invariant)
