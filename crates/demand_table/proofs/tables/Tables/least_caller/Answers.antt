use Rattle.std.proofs.Common.{◌∙◌, sym, subst}
use Rattle.std.specs.Prelude.{IfOk, IfSome, IfNone}
use Rattle.program_store.specs.Store.{Store}
use Rattle.seq_calls.specs.Demand.{InDem, LeastCaller}
use Rattle.demand_table.specs.Loaded.{Folders}
use Rattle.demand_table.specs.Tabled.{IsTabled}
use Rattle.demand_table.proofs.tables.Tables.least_caller.Goals as goal

pub least_caller-requires : goal.least_caller-requires
least_caller-requires c = subst (λ (f : Folders). IsTabled c.self.inside.programs f) (sym (c.of-known.ensures ∙ c.folders.ensures.folders)) c.self.invariant

pub returns-clause-some : goal.returns-clause-some
returns-clause-some c =
    subst (λ (s : Store). IfOk c.least_caller.result (λ found. IfSome found (λ k. LeastCaller s c.args.name c.args.arg.now k.name k.index))) c.self.view_is c.least_caller.ensures.some

pub returns-clause-none : goal.returns-clause-none
returns-clause-none c =
    subst (λ (s : Store). IfOk c.least_caller.result (λ found. IfNone found (InDem s c.args.name c.args.arg.now → ⊥))) c.self.view_is c.least_caller.ensures.none
