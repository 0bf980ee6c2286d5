use Rattle.std.proofs.Common.{◌≡◌, rules, All, sym, subst, List, false}
use Rattle.std.proofs.lemmas.List.Elements.{All-push}
use Rattle.mine_workers.specs.declared.working.Post.{Post}
use Rattle.mine_workers.specs.Posts.{IsPost}
use Rattle.mine_workers.proofs.working.posts.Goals as goal

pub loop-worker-preserved : goal.loop-worker-preserved
loop-worker-preserved c =
    let fits : Post → Type 0 = IsPost c.args.source.now c.args.jobs in
    (search rules, search rules, subst (λ (v : List Post). All fits v) (sym c.in_ok-push.ensures.items) (All-push fits c.loop-worker.all.items _ c.loop-worker.invariant.2 (c.split-seat.ensures.seats.1, search rules, c.requires.jobs, c.requires.source.0, c.requires.source.1)))
