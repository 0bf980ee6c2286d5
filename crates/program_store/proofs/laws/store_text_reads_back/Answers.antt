use Rattle.program_store.proofs.StoreBack.{store_back}
use Rattle.program_store.proofs.laws.store_text_reads_back.Goals as goal

pub returns : goal.returns
returns g c = store_back (g.V.View.store c.args.view.now) c.next_name-name.ensures.kept
