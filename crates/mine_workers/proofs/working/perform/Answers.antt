use Rattle.mine_workers.proofs.Publishable.{again_publishable}
use Rattle.mine_workers.proofs.working.perform.Goals as goal

pub publish-requires-clause-fitting : goal.publish-requires-clause-fitting
publish-requires-clause-fitting g c = c.loop.invariant.2.fitting

pub renewed-requires-clause-late : goal.renewed-requires-clause-late
renewed-requires-clause-late g c =
    again_publishable c.args.store.now.fixed c.loop.seat.known c.publish.new.seat.known c.loop.dossier c.publish.result c.publish.ensures.published _ _ _ c.in-Again.late c.in-Again.is c.loop.invariant.2
