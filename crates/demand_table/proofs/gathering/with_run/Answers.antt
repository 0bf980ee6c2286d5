use Rattle.std.proofs.Math.Facts.{Fits-lt-pow}
use Rattle.std.proofs.Common.{◌<◌, ◌^◌, ◌∙◌, sym, subst, ap, pos}
use Rattle.loda_semantics.specs.Exec.{run_name}
use Rattle.program_store.specs.Store.{programs_of}
use Rattle.seq_calls.specs.Frames.{nodes_of}
use Rattle.demand_table.specs.Gathered.{IsFresh}
use Rattle.demand_table.specs.Loaded.{slots_of}
use Rattle.demand_table.proofs.Gathers.{same_run, keeps_runs, one_more_run, run_there}
use Rattle.demand_table.proofs.gathering.with_run.Goals as goal

pub returns-clause-gathered : goal.returns-clause-gathered
returns-clause-gathered c =
    let s = c.args.store.now in
    let fits : c.args.limit < 2 ^ 64 = Fits-lt-pow c.ranges.limit in
    let q = c.args.name in
    let i = c.args.index in
    let f = c.args.known.now.pages.now in
    let g = c.args.gathered in
    let all = nodes_of q c.number_of.result (run_name (programs_of s) q c.number_of.result c.args.limit) in
    let fresh = subst (IsFresh (slots_of f g.work) all) (sym c.list-nodes.ensures) c.in_ok-frames.ensures in
    let are = ap (λ x. nodes_of q x (run_name (programs_of s) q x c.args.limit)) c.number_of.ensures ∙ ap (nodes_of q (pos i)) (same_run s c.args.limit fits c.requires.values q i c.requires.checked) in
    one_more_run s c.args.limit fits c.requires.values q i c.requires.checked (slots_of f g.work) (slots_of f c.put_all.new.work) g.callers c.in_ok-callers.callers g.pairs.items c.put_all.new.pending.items g.stand c.in_ok-stand.stand
    all c.list-nodes.result.now are fresh c.requires.gathered c.in_ok-stand.ensures c.in_ok-callers.ensures.grows c.in_ok-callers.ensures.runs

pub returns-clause-keeps : goal.returns-clause-keeps
returns-clause-keeps c =
    let s = c.args.store.now in
    let fits : c.args.limit < 2 ^ 64 = Fits-lt-pow c.ranges.limit in
    let q = c.args.name in
    let i = c.args.index in
    let f = c.args.known.now.pages.now in
    let g = c.args.gathered in
    let all = nodes_of q c.number_of.result (run_name (programs_of s) q c.number_of.result c.args.limit) in
    let fresh = subst (IsFresh (slots_of f g.work) all) (sym c.list-nodes.ensures) c.in_ok-frames.ensures in
    let are = ap (λ x. nodes_of q x (run_name (programs_of s) q x c.args.limit)) c.number_of.ensures ∙ ap (nodes_of q (pos i)) (same_run s c.args.limit fits c.requires.values q i c.requires.checked) in
    keeps_runs s c.args.limit fits c.requires.values q i c.requires.checked (slots_of f g.work) (slots_of f c.put_all.new.work) g.callers c.in_ok-callers.callers g.pairs.items c.put_all.new.pending.items g.stand c.in_ok-stand.stand
    all c.list-nodes.result.now are fresh c.requires.gathered c.in_ok-stand.ensures c.in_ok-callers.ensures.grows c.in_ok-callers.ensures.runs

pub returns-clause-here : goal.returns-clause-here
returns-clause-here c =
    let s = c.args.store.now in
    let fits : c.args.limit < 2 ^ 64 = Fits-lt-pow c.ranges.limit in
    let q = c.args.name in
    let i = c.args.index in
    let f = c.args.known.now.pages.now in
    let g = c.args.gathered in
    let all = nodes_of q c.number_of.result (run_name (programs_of s) q c.number_of.result c.args.limit) in
    let fresh = subst (IsFresh (slots_of f g.work) all) (sym c.list-nodes.ensures) c.in_ok-frames.ensures in
    let are = ap (λ x. nodes_of q x (run_name (programs_of s) q x c.args.limit)) c.number_of.ensures ∙ ap (nodes_of q (pos i)) (same_run s c.args.limit fits c.requires.values q i c.requires.checked) in
    run_there s c.args.limit fits c.requires.values q i c.requires.checked (slots_of f g.work) (slots_of f c.put_all.new.work) g.callers c.in_ok-callers.callers g.pairs.items c.put_all.new.pending.items g.stand c.in_ok-stand.stand
    all c.list-nodes.result.now are fresh c.requires.gathered c.in_ok-stand.ensures c.in_ok-callers.ensures.grows c.in_ok-callers.ensures.runs
