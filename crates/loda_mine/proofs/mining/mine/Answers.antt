use Rattle.loda_mine.proofs.mining.mine.Goals as goal

pub returns : goal.returns
returns g c = (c.in_ok-desk.desk, c.in_ok-desk.ensures.mined, c.in_ok-output.ensures.report)
