use Rattle.std.proofs.Common.{◌∙◌, sym, ap}
use Rattle.demand_table.specs.Demanded.{called_in}
use Rattle.demand_table.specs.Loaded.{node_at}
use Rattle.demand_table.specs.Mended.{runs_of}
use Rattle.demand_table.proofs.Calling.{called_some, called_none}
use Rattle.demand_table.proofs.demanding.demanded.Goals as goal
use Rattle.demand_table.proofs.demanding.demanded.Goals.{in-Some+in_ok-list-in-Some, in-None}

pub returns : goal.returns
returns c =
    let folders = c.args.known.now.pages.now in
    elim c.match-folder.branch [
      | in-Some+in_ok-list-in-Some w ↦
          called_some folders (runs_of (node_at folders)) c.args.name c.requires.drawn w.in-Some.folder.now c.match-folder.list.items (sym w.in-Some.ensures)
          (c.requires.ascend c.args.name w.in-Some.folder.now (sym w.in-Some.ensures))
          (ap (λ v. v.items) w.list-is ∙ w.in_ok-list-in-Some.ensures ∙ ap called_in w.list.ensures)
      | in-None w ↦
          called_none folders (runs_of (node_at folders)) c.args.name c.requires.drawn c.match-folder.list.items (sym w.in-None.ensures) (ap (λ v. v.items) w.list-is ∙ w.new-list.ensures.items)
    ]
