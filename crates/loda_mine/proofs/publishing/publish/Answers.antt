use Rattle.loda_mine.proofs.publishing.publish.Goals as goal

pub returns : goal.returns
returns c = (c.in_ok-desk.desk, c.in_ok-desk.ensures.decided, c.in_ok-output.ensures.report)
