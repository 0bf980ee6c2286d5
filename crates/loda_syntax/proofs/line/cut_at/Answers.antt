use Rattle.std.proofs.Common.{◌+◌, sym}
use Rattle.loda_syntax.proofs.Cuts.{cut_here, uncut, rest_taken}
use Rattle.loda_syntax.proofs.line.cut_at.Goals as goal

pub returns-in-Some-clause-some : goal.returns-in-Some-clause-some
returns-in-Some-clause-some c = rw (rest_taken (c.in-Some.at + 1) c.args.text.now) (cut_here _ c.args.text.now c.in-Some.at (sym c.in-Some.ensures)).1

pub returns-in-None-clause-none : goal.returns-in-None-clause-none
returns-in-None-clause-none c = uncut _ c.args.text.now (sym c.in-None.ensures)
