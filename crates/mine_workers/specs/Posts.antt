-- What a worker begins with. Only clauses of private functions use what stands here.
use Rattle.std.specs.Prelude.{◌≡◌, ℕ, false}
use Rattle.publish_desk.specs.Desk.{IsChartered}
use Rattle.mine_workers.specs.declared.working.Post.{Post}
use Rattle.mine_workers.specs.JobSources.{JobSource, job_source_of}
use Rattle.mine_workers.specs.Shared.{IsSeatOf}

-- The seat is one of the post's store and doesn't hold the turn, and what the dossiers of jobs are made of, and the number of jobs, are
-- those of the desk that the store was made of.
abbrev pub IsPost : JobSource → ℕ → Post → Type 0
IsPost source jobs p =
    IsSeatOf p.store.now p.seat × (p.seat.known.turn ≡ false) × (jobs ≡ p.store.now.fixed.jobs)
    × (source ≡ job_source_of p.store.now.fixed) × IsChartered p.store.now.fixed
