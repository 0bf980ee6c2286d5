use Rattle.loda_mine.proofs.run.output_of.Goals as goal

pub returns-in-Made : goal.returns-in-Made
returns-in-Made c = rw c.in-Made.is (c.make.ensures c.args.contents)
