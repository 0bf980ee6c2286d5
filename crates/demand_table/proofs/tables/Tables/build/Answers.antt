use Rattle.std.proofs.Common.{sym, subst}
use Rattle.program_store.specs.Store.{Store}
use Rattle.demand_table.specs.Loaded.{Folders}
use Rattle.demand_table.specs.Tabled.{IsTabled}
use Rattle.demand_table.proofs.tables.Tables.build.Goals as goal

pub invariant_of-result : goal.invariant_of-result
invariant_of-result c =
    subst (λ (s : Store). IsTabled s c.of.result) (sym c.in_ok-undrawn.ensures.programs)
    (subst (λ (f : Folders). IsTabled c.args.store.now f) (sym c.of.ensures) c.in_ok-parts.ensures.tabled)
