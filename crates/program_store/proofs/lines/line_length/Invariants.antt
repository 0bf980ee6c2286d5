use Rattle.std.proofs.Common.{◌≡◌, take, drop}
use Rattle.program_store.specs.Sections.{whole_lines}
use Rattle.program_store.proofs.WholeLines.{glued}
use Rattle.program_store.proofs.lines.line_length.Given as goal

abbrev pub invariant-loop-at : goal.invariant-loop-at
invariant-loop-at l = whole_lines l.bytes ≡ glued (take l.at l.bytes) (whole_lines (drop l.at l.bytes))
