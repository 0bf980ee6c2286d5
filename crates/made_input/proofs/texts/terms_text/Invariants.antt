use Rattle.std.proofs.Common.{◌≡◌}
use Rattle.made_input.specs.Texts.{terms_text}
use Rattle.made_input.proofs.texts.terms_text.Given as goal

abbrev pub invariant-loop-place : goal.invariant-loop-place
invariant-loop-place l = l.text.items ≡ terms_text l.place
