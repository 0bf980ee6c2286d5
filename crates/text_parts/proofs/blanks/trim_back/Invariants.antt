use Rattle.std.proofs.Common.{◌≡◌, length}
use Rattle.text_parts.specs.Blanks.{trim_back}
use Rattle.text_parts.proofs.blanks.trim_back.Given as goal

abbrev pub invariant-loop-rest : goal.invariant-loop-rest
invariant-loop-rest l = trim_back l.rest ≡ trim_back l.text

abbrev pub decreases-loop-rest : goal.decreases-loop-rest
decreases-loop-rest l = length l.rest
