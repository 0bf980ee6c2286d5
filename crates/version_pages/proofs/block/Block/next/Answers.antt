use Rattle.version_pages.proofs.block.Block.next.Goals as goal

pub returns-clause-none : goal.returns-clause-none
returns-clause-none g c = rw (← c.self.view_is, ← c.deref.ensures.value) c.first_held.ensures.none
