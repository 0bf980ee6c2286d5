use Rattle.version_pages.proofs.row.Row.next.Goals as goal

pub returns-clause-none : goal.returns-clause-none
returns-clause-none g c = rw (← c.self.view_is, ← c.deref.ensures.value) c.next_held.ensures.none
