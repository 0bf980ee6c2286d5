use Rattle.std.proofs.Common.{◌+◌, ◌≤◌, length}
use Rattle.loda_syntax.specs.Lines.{text_lines}
use Rattle.loda_syntax.specs.Reading.{IsDraft}
use Rattle.loda_syntax.proofs.Texts.{IsLeft}
use Rattle.loda_syntax.proofs.reading.read.Given as goal

abbrev pub invariant-loop-line : goal.invariant-loop-line
invariant-loop-line l = record {
  formed : IsDraft l.draft;
  number : l.number + length l.rest ≤ 1 + length l.text;
  left : IsLeft l.text l.number l.draft (text_lines l.rest);
}

abbrev pub decreases-loop-line : goal.decreases-loop-line
decreases-loop-line l = length l.rest
