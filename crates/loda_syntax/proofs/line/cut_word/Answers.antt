use Rattle.std.proofs.Common.{sym, refl}
use Rattle.text_parts.specs.Blanks.{trim, is_blank}
use Rattle.loda_syntax.proofs.Cuts.{uncut}
use Rattle.loda_syntax.proofs.line.cut_word.Goals as goal

pub returns-in-None-clause-rest : goal.returns-in-None-clause-rest
unfolding trim
returns-in-None-clause-rest c = let u = uncut is_blank c.args.text.now (sym c.in-None.ensures) in rw u.rest_is refl
