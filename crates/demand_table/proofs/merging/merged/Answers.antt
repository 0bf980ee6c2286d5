use Rattle.std.proofs.Common.{ℤ, ◌≡◌, ◌∙◌, sym, ap, List, [], ◌∷◌, ◌++◌, drop, rules}
use Rattle.demand_table.specs.declared.slot.Slot.{Slot}
use Rattle.demand_table.specs.Written.{merged}
use Rattle.demand_table.proofs.Merge_steps.{merged_step}
use Rattle.demand_table.proofs.merging.merged.Goals as goal

pub loop-arg-preserved : goal.loop-arg-preserved
loop-arg-preserved c =
    let old = c.args.old.now in
    let nodes = c.loop-arg.nodes.items in
    let rest = drop c.loop-arg.at old in
    let es = c.next.new.self in
    let e : c.loop-arg.arg-iterator ≡ (c.in-Some.arg, c.in-Some.slot) ∷ es = search rules in
    merged_step nodes c.keep_below.new.nodes.items c.put_node.new.nodes.items (merged old c.args.slots.entries) rest (drop c.in_ok-below.below old) (drop c.past-at.result old) c.in-Some.arg c.in-Some.slot es
    c.in_ok-below.ensures.nodes c.in_ok-below.ensures.rest c.past-at.ensures c.in_ok-put_node.ensures
    (ap (λ (l : List (ℤ × Slot)). nodes ++ merged rest l) (sym e) ∙ c.loop-arg.invariant)

pub returns : goal.returns
returns c =
    let old = c.args.old.now in
    let e : c.loop-arg.arg-iterator ≡ [] = search rules in
    c.in_ok-keep_rest.ensures ∙ ap (λ (l : List (ℤ × Slot)). c.loop-arg.nodes.items ++ merged (drop c.loop-arg.at old) l) (sym e) ∙ c.loop-arg.invariant
