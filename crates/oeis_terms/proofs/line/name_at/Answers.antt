use Rattle.std.proofs.Common.{ap, take, drop, arith, ◌<◌, length}
use Rattle.std.specs.Prelude.{Option, ℕ}
use Rattle.std.proofs.lemmas.List.{length-take}
use Rattle.text_parts.proofs.NameBack.{short_is_none}
use Rattle.oeis_terms.specs.Line.{named}
use Rattle.oeis_terms.proofs.line.name_at.Goals as goal

pub returns-then-line-lt7-clause-answer : goal.returns-then-line-lt7-clause-answer
returns-then-line-lt7-clause-answer c =
    let short : length (take 7 c.args.line.now) < 7 = omega (arith, length-take 7 c.args.line.now, c.if-line-lt7.true) in
    ap (λ (o : Option ℕ). named o (drop 7 c.args.line.now)) (short_is_none (take 7 c.args.line.now) short)
