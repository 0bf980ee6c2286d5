use Rattle.mine_workers.proofs.Publishable.{again_publishable}
use Rattle.mine_workers.proofs.shared_tests.publish_late.Goals as goal

pub renewed-requires-clause-late : goal.renewed-requires-clause-late
renewed-requires-clause-late g c =
    again_publishable c.args.store.now.fixed c.args.seat.now.known c.publish.new.seat.known c.args.late c.publish.result c.publish.ensures.published _ _ _ c.in-Again.dossier c.in-Again.is c.requires.late
