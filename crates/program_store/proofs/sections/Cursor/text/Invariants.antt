use Rattle.std.proofs.Common.{◌≡◌, ◌≤◌, ◌+◌, length}
use Rattle.program_store.specs.Sections.{cut_from}
use Rattle.program_store.proofs.Cutting.{Passed}
use Rattle.program_store.proofs.sections.Cursor.text.Given as goal

abbrev pub invariant-loop-self : goal.invariant-loop-self
invariant-loop-self l =
    (l.self.sign ≡ l.fn.self.sign) × (l.self.line + length l.self.rest.now ≤ l.fn.self.line + length l.fn.self.rest.now)
    × Passed l.self.sign (cut_from l.fn.self.sign l.fn.self.line l.fn.self.rest.now) l.text l.self.line l.self.rest.now

abbrev pub decreases-loop-self : goal.decreases-loop-self
decreases-loop-self l = length l.self.rest.now
