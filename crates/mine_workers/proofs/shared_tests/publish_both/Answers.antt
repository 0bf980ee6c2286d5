use Rattle.mine_workers.proofs.Onward.{fits_on}
use Rattle.mine_workers.proofs.shared_tests.publish_both.Goals as goal

pub publish-done-requires-clause-fitting : goal.publish-done-requires-clause-fitting
publish-done-requires-clause-fitting g c = fits_on c.args.store.now.fixed _ _ c.in_ok-second.second c.publish-decided.ensures.published.grown c.in_ok-second.ensures
