use Rattle.loda_mine.proofs.Journals.{decided}
use Rattle.loda_mine.proofs.publishing.decided.Goals as goal

pub returns-clause-decided : goal.returns-clause-decided
returns-clause-decided c =
    let opened = c.in_ok-opened.ensures in
    let all = c.in_ok-desk.ensures in
    decided c.args.contents c.args.limit c.in_ok-opened.opened c.in_ok-desk.desk opened.charter all.charter all.whole (all.fresh opened.journal) all.kept
