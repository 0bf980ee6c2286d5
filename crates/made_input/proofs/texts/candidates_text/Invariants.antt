use Rattle.std.proofs.Common.{◌≡◌, ◌++◌}
use Rattle.made_input.specs.Values.{first, plain}
use Rattle.made_input.specs.Texts.{each_text}
use Rattle.made_input.proofs.texts.candidates_text.Given as goal

abbrev pub invariant-loop-place : goal.invariant-loop-place
invariant-loop-place l = l.text.items ≡ each_text first l.place

abbrev pub invariant-loop-place-2 : goal.invariant-loop-place-2
invariant-loop-place-2 l = l.text.items ≡ each_text first l.n ++ each_text plain l.place
