use Rattle.demand_table.proofs.Gathers.{first_runs_more}
use Rattle.demand_table.proofs.gathering.with_name.Goals as goal

pub loop-index-preserved : goal.loop-index-preserved
loop-index-preserved c =
    let f = c.args.known.now.pages.now in
    let old = c.loop-index.gathered in
    let new = c.in_ok-gathered.gathered in
    let h = c.loop-index.invariant in
    record {
      gathered = c.in_ok-gathered.ensures.gathered;
      keeps = λ p there. c.in_ok-gathered.ensures.keeps p (h.keeps p there);
      here = first_runs_more f old new c.args.name c.loop-index.index c.in_ok-gathered.ensures.keeps c.in_ok-gathered.ensures.here h.here;
    }
