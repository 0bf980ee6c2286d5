use Rattle.loda_mine.proofs.Journals.{mined}
use Rattle.loda_mine.proofs.mining.mined.Goals as goal

pub returns-clause-mined : goal.returns-clause-mined
returns-clause-mined g c =
    let opened = c.in_ok-opened.ensures in
    let all = c.in_ok-desk.ensures in
    mined c.args.contents c.args.limit c.args.seed c.args.jobs c.args.workers c.in_ok-opened.opened c.in_ok-desk.desk opened.charter opened.journal all.charter all.kept all.whole all.fresh
