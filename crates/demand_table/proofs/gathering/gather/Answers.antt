use Rattle.demand_table.proofs.Gathers.{runs_up_to_more}
use Rattle.demand_table.proofs.gathering.gather.Goals as goal

pub loop-name-preserved : goal.loop-name-preserved
loop-name-preserved c =
    let s = c.args.store.now in
    let f = c.args.known.now.pages.now in
    let next = c.in_ok-gathered-2 in
    record {
      within = c.in-Some.ensures.named.1;
      gathered = next.ensures.gathered;
      all = runs_up_to_more s f c.loop-name.gathered next.gathered c.loop-name.last c.in-Some.name next.ensures.keeps c.in-Some.ensures.least next.ensures.here c.loop-name.invariant.all;
    }
