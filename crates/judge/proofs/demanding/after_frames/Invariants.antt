use Rattle.std.proofs.Common.{take}
use Rattle.judge.specs.Changes.{AreChangesUpTo}
use Rattle.judge.proofs.demanding.after_frames.Given as goal

abbrev pub invariant-loop-frame : goal.invariant-loop-frame
invariant-loop-frame g l = AreChangesUpTo (g.V.View.store l.view) l.limit l.proposal l.by (take l.frame-index l.frames) l.changes
