use Rattle.std.proofs.Common.{◌≤◌, ◌+◌, length}
use Rattle.std.specs.Option.{option_map}
use Rattle.oeis_terms.specs.Cut.{lines}
use Rattle.oeis_terms.specs.Reading.{reading_state}
use Rattle.oeis_terms.proofs.LinesRead.{HasRead, left}
use Rattle.oeis_terms.proofs.read_lines.Given as goal

abbrev pub invariant-loop-rest : goal.invariant-loop-rest
invariant-loop-rest l = record {
  read : HasRead (lines l.fn.bytes) (option_map (λ t. t.now) l.rest) l.number (reading_state l.reading);
  few : l.number + left (option_map (λ t. t.now) l.rest) ≤ length l.fn.bytes + 2;
}

abbrev pub decreases-loop-rest : goal.decreases-loop-rest
decreases-loop-rest l = left (option_map (λ t. t.now) l.rest)
