use Rattle.std.proofs.Common.{◌≡◌, All}
use Rattle.mine_workers.specs.Posts.{IsPost}
use Rattle.mine_workers.specs.Shared.{IsSeatOf}
use Rattle.mine_workers.proofs.working.posts.Given as goal

abbrev pub invariant-loop-worker : goal.invariant-loop-worker
invariant-loop-worker l = IsSeatOf l.store l.mine × (l.mine.known ≡ l.initial.mine.known) × All (IsPost l.source l.jobs) l.all.items
