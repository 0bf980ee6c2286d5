use Rattle.loda_mine.proofs.making.make.Goals as goal

pub returns-in-Run : goal.returns-in-Run
returns-in-Run c = rw c.in-Run.is c.run.ensures
