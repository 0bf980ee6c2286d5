use Rattle.std.proofs.Common.{sym, ap, subst, ◌∙◌}
use Rattle.std.specs.Ordering.{nat_cmp}
use Rattle.std.specs.FinMap.{FinMap, insert}
use Rattle.loda_syntax.specs.WellFormed.{IsProgram}
use Rattle.program_store.specs.declared.published.Published.{Published}
use Rattle.program_store.specs.Store.{Store, IsStore}
use Rattle.program_store.proofs.Entries.{get-viewed, put-is, IsStore-insert}
use Rattle.program_store.proofs.store.Store.put.Goals as goal

pub invariant_of-self-2 : goal.invariant_of-self-2
invariant_of-self-2 c =
    subst (λ (s : Store). IsStore s) (sym (put-is c.self.inside.entries.entries c.insert.new.self.entries c.args.name c.args.published c.in-Ok.ensures.updates.0))
    (IsStore-insert _ c.args.name c.args.published c.self.invariant c.requires (subst IsProgram c.instrs.ensures.value c.instrs.ensures.program))

pub returns-clause-ok : goal.returns-clause-ok
returns-clause-ok c = c.in-Ok.ensures.old ∙ get-viewed c.self.inside.entries.entries c.args.self.now c.args.name c.self.view_is

pub returns-clause-put : goal.returns-clause-put
returns-clause-put c =
    put-is c.self.inside.entries.entries c.insert.new.self.entries c.args.name c.args.published c.in-Ok.ensures.updates.0
    ∙ ap (λ (m : FinMap nat_cmp Published). insert m c.args.name c.args.published) c.self.view_is
