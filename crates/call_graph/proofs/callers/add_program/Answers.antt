use Rattle.std.proofs.Common.{ℕ, ◌<◌, ◌≤◌, sym, subst, ◌∙◌, List, length, get_or, take, arith}
use Rattle.std.proofs.lemmas.List.{take_more, take_all}
use Rattle.call_graph.specs.Callers.{names_under, AddsCaller}
use Rattle.call_graph.proofs.Turning.{adds_more}
use Rattle.call_graph.proofs.callers.add_program.Goals as goal

pub loop-name-preserved : goal.loop-name-preserved
loop-name-preserved c =
    let items : List ℕ = c.deref-name-items.result.now in
    let i : ℕ = c.loop-name.name-index in
    let name : ℕ = get_or items i 0 in
    let lt : i < length items = omega arith in
    let old : ℕ → List ℕ = names_under c.args.callers.now in
    subst (AddsCaller old (names_under c.add_caller.new.callers) c.args.caller) (sym (take_more items i 0 lt))
    (adds_more old (names_under c.loop-name.callers) (names_under c.add_caller.new.callers) c.args.caller name (take i items) c.in_ok-add_caller.ensures.added
    c.in_ok-add_caller.ensures.others c.loop-name.invariant)

pub returns : goal.returns
returns c =
    let items : List ℕ = c.deref-name-items.result.now in
    let le : length items ≤ c.loop-name.name-index = omega arith in
    subst (AddsCaller (names_under c.args.callers.now) (names_under c.loop-name.callers) c.args.caller)
    (take_all c.loop-name.name-index items le ∙ c.deref-name-items.ensures.value ∙ c.in_ok-names.ensures) c.loop-name.invariant
