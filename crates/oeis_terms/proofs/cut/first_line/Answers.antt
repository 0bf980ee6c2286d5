use Rattle.std.specs.Prelude.{Some, None}
use Rattle.oeis_terms.proofs.Lines.{lines-cut}
use Rattle.oeis_terms.proofs.cut.first_line.Goals as goal

pub returns-in-Some-clause-line : goal.returns-in-Some-clause-line
returns-in-Some-clause-line c = lines-cut c.args.text.now (Some (c.in-Some.line.now, c.in-Some.after.now)) c.in-Some.ensures.cut

pub returns-in-None-clause-line : goal.returns-in-None-clause-line
returns-in-None-clause-line c = lines-cut c.args.text.now None c.in-None.ensures.cut
