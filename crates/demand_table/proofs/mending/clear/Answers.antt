use Rattle.std.proofs.Common.{◌≡◌, ◌∙◌, sym, ap, subst, take, List, [], ◌∷◌, ◌++◌}
use Rattle.std.proofs.lemmas.List.{take_more, take_all}
use Rattle.demand_table.specs.declared.node.Node.{Node}
use Rattle.demand_table.specs.Loaded.{slots_of}
use Rattle.demand_table.specs.Mending.{IsClearing}
use Rattle.demand_table.proofs.Clearing.{clearing_none, clearing_more, cleared_all, has_node, has_none}
use Rattle.demand_table.proofs.mending.clear.Goals as goal

pub loop-node-init : goal.loop-node-init
loop-node-init c =
    let old = slots_of c.args.known.now.pages.now c.args.work.now in
    clearing_none old c.args.name c.args.pending.now.items c.args.many c.requires.counted c.requires.many

pub loop-node-preserved : goal.loop-node-preserved
loop-node-preserved c =
    let old = slots_of c.args.known.now.pages.now c.args.work.now in
    let nodes = c.list-node-items.result.now in
    let i = c.loop-node.node-index in
    let n = c.node-item.result in
    let e = take_more nodes i n c.loop-node-test.true ∙ ap (λ (m : Node). take i nodes ++ m ∷ []) (sym c.node-item.is) in
    subst (λ (l : List Node). IsClearing old (slots_of c.args.known.now.pages.now c.take_out.new.work) c.args.name l c.args.pending.now.items c.take_out.new.pending.items c.in_ok-left.left) (sym e)
    (clearing_more old (slots_of c.args.known.now.pages.now c.loop-node.work) (slots_of c.args.known.now.pages.now c.take_out.new.work) c.args.name (take i nodes) n c.args.pending.now.items c.loop-node.pending.items c.take_out.new.pending.items c.loop-node.left c.in_ok-left.left
    c.loop-node.invariant c.in_ok-left.ensures)

pub returns-in_default : goal.returns-in_default
returns-in_default c =
    let old = slots_of c.args.known.now.pages.now c.args.work.now in
    let pending = c.args.pending.now.items in
    cleared_all old old c.args.name [] pending pending c.args.many (clearing_none old c.args.name pending c.args.many c.requires.counted c.requires.many)
    (λ q is here. absurd (has_none c.args.known.now.pages.now q c.args.name (old q) (c.requires.fresh q) is (sym c.in_default.ensures) here))

pub returns-after-loop-node : goal.returns-after-loop-node
returns-after-loop-node c =
    let old = slots_of c.args.known.now.pages.now c.args.work.now in
    let new = slots_of c.args.known.now.pages.now c.loop-node.work in
    let nodes = c.list-node-items.result.now in
    let i = c.loop-node.node-index in
    let pending = c.args.pending.now.items in
    let now = c.loop-node.pending.items in
    let e : take i nodes ≡ c.in-Some.folder.now.nodes = take_all i nodes c.loop-node-test.false ∙ c.list-node-items.ensures in
    cleared_all old new c.args.name c.in-Some.folder.now.nodes pending now c.loop-node.left
    (subst (λ (l : List Node). IsClearing old new c.args.name l pending now c.loop-node.left) e c.loop-node.invariant)
    (λ q is here. has_node c.args.known.now.pages.now q c.args.name c.in-Some.folder.now (old q) (c.requires.fresh q) is (sym c.in-Some.ensures) here)
