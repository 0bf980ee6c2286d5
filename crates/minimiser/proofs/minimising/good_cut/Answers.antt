use Rattle.minimiser.proofs.minimising.good_cut.Goals as goal

pub returns-then-branch-clause-runs : goal.returns-then-branch-clause-runs
returns-then-branch-clause-runs g c = c.in_ok-is_good.ensures.runs c.if-branch.true
