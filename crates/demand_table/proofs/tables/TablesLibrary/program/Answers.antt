use Rattle.std.proofs.Common.{sym, ap, ◌∙◌}
use Rattle.std.specs.Option.{option_map, option_copied}
use Rattle.program_store.specs.declared.published.Published.{Published}
use Rattle.demand_table.proofs.tables.TablesLibrary.program.Goals as goal

pub returns-in-Some : goal.returns-in-Some
returns-in-Some c = ap (option_map (λ (e : Published). e.program)) (sym (ap option_copied c.in-Some.is) ∙ c.published.ensures.value)

pub returns-in-None : goal.returns-in-None
returns-in-None c = ap (option_map (λ (e : Published). e.program)) (sym (ap option_copied c.in-None.is) ∙ c.published.ensures.value)
