use Rattle.std.proofs.Common.{sym, ◌∙◌}
use Rattle.program_store.proofs.Entries.{get-viewed, above_none, above_first, IsSome-from, get-is}
use Rattle.program_store.proofs.store.StoreView.next_name.Goals as goal

pub returns-in-Some-clause-some : goal.returns-in-Some-clause-some
returns-in-Some-clause-some c =
    let first = above_first c.self.inside.entries c.args.after c.range.result (c.range.ensures.in_range tt) c.in-Some.name.now c.in-Some.field-0-1.now c.next.new.self c.in-Some.ensures.steps in
    (first.0, IsSome-from _ _ (sym (get-viewed c.self.inside.entries.entries c.args.self.now c.in-Some.name.now c.self.view_is) ∙ first.1))

pub returns-in-Some-clause-least : goal.returns-in-Some-clause-least
returns-in-Some-clause-least c k above below =
    let first = above_first c.self.inside.entries c.args.after c.range.result (c.range.ensures.in_range tt) c.in-Some.name.now c.in-Some.field-0-1.now c.next.new.self c.in-Some.ensures.steps in
    sym (get-viewed c.self.inside.entries.entries c.args.self.now k c.self.view_is) ∙ first.2 k above below

pub returns-in-Some-clause-named : goal.returns-in-Some-clause-named
returns-in-Some-clause-named c =
    let first = above_first c.self.inside.entries c.args.after c.range.result (c.range.ensures.in_range tt) c.in-Some.name.now c.in-Some.field-0-1.now c.next.new.self c.in-Some.ensures.steps in
    c.self.invariant.named c.in-Some.name.now c.in-Some.field-0-1.now (get-is c.self.inside.entries.entries c.in-Some.name.now ∙ first.1)

pub returns-in-None-clause-none : goal.returns-in-None-clause-none
returns-in-None-clause-none c k lt =
    sym (get-viewed c.self.inside.entries.entries c.args.self.now k c.self.view_is)
    ∙ above_none c.self.inside.entries c.args.after c.range.result (c.range.ensures.in_range tt) c.in-None.ensures.steps.0 k lt
