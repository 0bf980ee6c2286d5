use Rattle.loda_io.proofs.Limits.{checked-whole, checked-long, checked-large}
use Rattle.loda_io.proofs.laws.limits_of_a_file.Goals as goal

pub returns-clause-whole : goal.returns-clause-whole
returns-clause-whole c = checked-whole c.args.file.now

pub returns-clause-long : goal.returns-clause-long
returns-clause-long c = checked-long c.args.file.now

pub returns-clause-large : goal.returns-clause-large
returns-clause-large c = checked-large c.args.file.now
