use Rattle.judge.proofs.Sides.{runs_are}
use Rattle.judge.proofs.comparing.both_runs.Goals as goal

pub returns : goal.returns
returns g c =
    runs_are (g.V.View.store c.args.view.now) (g.V.Library.programs c.args.view.now) (λ i n. g.met.V.View.same_programs c.args.view.now n i)
    c.args.limit c.args.proposal.now.name c.args.proposal.now.program c.args.at c.in_ok-with_old.with_old c.in_ok-with_new.with_new c.in_ok-with_old.ensures c.in_ok-with_new.ensures
