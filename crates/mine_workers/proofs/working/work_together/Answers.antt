use denote.Param.Send.{sendable}
use Rattle.std.proofs.Common.{rules, sym, subst}
use Rattle.std.proofs.lemmas.List.Elements.{All-get_or}
use Rattle.mine_workers.specs.declared.working.Post.{Post}
use Rattle.mine_workers.specs.Posts.{IsPost}
use Rattle.mine_workers.proofs.Sharing.{post_send}
use Rattle.mine_workers.proofs.working.work_together.Goals as goal

pub map_vec-requires-send-J : goal.map_vec-requires-send-J
map_vec-requires-send-J g c κs within = search (sendable, post_send) depth 40

pub map_vec-requires-after_bounds : goal.map_vec-requires-after_bounds
map_vec-requires-after_bounds g c κs within i x lt is =
    let fits : Post → Type 0 = IsPost c.args.source.now c.jobs-jobs.result in
    (subst fits (sym is) (All-get_or fits c.in_ok-all.all.items i x lt c.in_ok-all.ensures.posts), search (sendable, c.type_bounds.sync-G, c.type_bounds.sync-R))
