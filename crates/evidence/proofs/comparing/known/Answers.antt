use Rattle.judge.proofs.Fresh.{within_ample}
use Rattle.evidence.proofs.Known.{known_is}
use Rattle.evidence.proofs.comparing.known.Goals as goal

pub returns : goal.returns
returns c = known_is c.args.tables.now c.args.limit c.args.name c.args.at.now c.in-Some.node.now (within_ample c.args.limit c.ranges.limit.fits) c.requires.sound c.requires.relied c.in-Some.ensures.some
