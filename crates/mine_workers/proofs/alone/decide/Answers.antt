use Rattle.mine_workers.proofs.Adding.{is_decided}
use Rattle.mine_workers.proofs.alone.decide.Goals as goal

pub unreachable-requires : goal.unreachable-requires
unreachable-requires g c =
    let told = c.in_ok-dossier.ensures in
    let h = is_decided c.args.desk.now c.publish.new.self c.in_ok-dossier.dossier c.publish.result c.args.job c.requires.missing told.job told.seen c.publish.ensures in
    c.in_default.not-Decided h.0.0 h.0.1
