use Rattle.std.proofs.Common.{sym, ap, ◌∙◌}
use Rattle.std.specs.Option.{option_map, option_copied}
use Rattle.program_store.specs.declared.published.Published.{Published}
use Rattle.program_store.proofs.Entries.{get-viewed}
use Rattle.program_store.proofs.store.StoreLibrary.program.Goals as goal

pub returns-in-Some : goal.returns-in-Some
returns-in-Some c =
    ap (option_map (λ (e : Published). e.program))
    (sym (ap option_copied c.in-Some.is) ∙ c.get.ensures.value ∙ get-viewed c.self.inside.entries.entries c.args.self.now c.args.name c.self.view_is)

pub returns-in-None : goal.returns-in-None
returns-in-None c =
    ap (option_map (λ (e : Published). e.program))
    (sym (ap option_copied c.in-None.is) ∙ c.get.ensures.value ∙ get-viewed c.self.inside.entries.entries c.args.self.now c.args.name c.self.view_is)
