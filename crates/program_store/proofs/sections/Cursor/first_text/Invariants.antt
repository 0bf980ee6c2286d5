use Rattle.std.proofs.Common.{◌≡◌, ◌≤◌, ◌+◌, length}
use Rattle.program_store.specs.Sections.{cut_from}
use Rattle.program_store.proofs.Cutting.{Searched}
use Rattle.program_store.proofs.sections.Cursor.first_text.Given as goal

abbrev pub invariant-loop-number : goal.invariant-loop-number
invariant-loop-number l =
    (l.self.sign ≡ l.fn.self.sign) × (l.self.line + length l.self.rest.now ≤ l.fn.self.line + length l.fn.self.rest.now)
    × Searched l.self.sign (cut_from l.fn.self.sign l.fn.self.line l.fn.self.rest.now) l.self.line l.self.rest.now

abbrev pub decreases-loop-number : goal.decreases-loop-number
decreases-loop-number l = length l.self.rest.now
