use Rattle.version_pages.proofs.Rows.{place_held_set_other}
use Rattle.version_pages.proofs.block.taken.Goals as goal

pub returns-clause-others : goal.returns-clause-others
returns-clause-others g c = λ k ne. place_held_set_other c.args.places.now.items c.args.at c.take.new.self k ne
