use Rattle.std.proofs.Common.{is_some, ◌&&◌, ◌≡◌, ◌+◌, ◌*◌, ◌≤◌, length}
use Rattle.std.specs.Prelude.{reverse, IfSome}
use Rattle.loda_semantics.specs.Exec.{run_text}
use Rattle.seq_calls.specs.Known.{IsFoundIn}
use Rattle.seq_calls.proofs.Under.{IsUnder, keeping}
use Rattle.seq_calls.proofs.evaluation.run_frames.Given as goal

abbrev pub invariant-loop-frame : goal.invariant-loop-frame
invariant-loop-frame g l = record {
  under : IsUnder (g.B.Library.programs l.lib) (keeping l.fn.name l.fn.all) l.limit (run_text (g.B.Library.programs l.lib) l.fn.program l.fn.arg l.limit) l.text l.frame.value (reverse l.callers.items) l.finished.nodes.items l.budget;
  within : l.budget ≤ l.limit;
  limit : l.limit ≡ l.fn.budget;
  name : l.name ≡ l.fn.name;
  named : l.named ≡ is_some l.fn.name;
  kept : l.kept ≡ (is_some l.fn.name && l.fn.all);
  last : IfSome l.last (IsFoundIn (g.B.Library.programs l.lib));
}

abbrev pub decreases-loop-frame : goal.decreases-loop-frame
decreases-loop-frame g l = 2 * l.budget + length l.callers.items
