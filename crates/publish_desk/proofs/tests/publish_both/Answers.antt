use Rattle.publish_desk.proofs.Fitting.{fits_still}
use Rattle.publish_desk.proofs.tests.publish_both.Goals as goal

pub publish-second-requires : goal.publish-second-requires
publish-second-requires c =
    fits_still c.args.desk.now c.publish-first.new.self c.args.one c.args.two c.publish-first.result c.version.ensures.kept c.publish-first.ensures c.requires.two
