use Rattle.std.proofs.Common.{ℕ, ◌+◌, ◌≡◌, ◌<◌, ◌≤◌, ◌↔◌, sym, ap, subst, ◌∙◌, List, [], Contains, length, get_or, nat_eq, arith}
use Rattle.std.proofs.lemmas.List.{get_or_default}
use Rattle.std.proofs.lemmas.Result.{IfOk-weaker}
use Rattle.indexmap.specs.IndexSet.{insert_all}
use Rattle.loda_semantics.specs.Exec.{Library}
use Rattle.program_store.specs.Store.{programs_of}
use Rattle.call_graph.specs.Closure.{ReachesByCall}
use Rattle.call_graph.specs.Callers.{names_under}
use Rattle.call_graph.proofs.Upward.{IsClimbed, climbed_first, climbed_more, climbed_all}
use Rattle.call_graph.proofs.reach.ancestors.Goals as goal

pub loop-next-init : goal.loop-next-init
loop-next-init g c =
    let lib : Library = programs_of (g.V.View.store c.args.view.now) in
    let under : ℕ → List ℕ = names_under c.in_ok-callers.callers in
    let put : c.add_callers.new.names.keys ≡ insert_all nat_eq [] (under c.args.name) =
    subst (λ (l : List ℕ). c.add_callers.new.names.keys ≡ insert_all nat_eq l (under c.args.name)) c.new-above.ensures.empty c.in_ok-add_callers.ensures in
    subst (λ (l : List ℕ). IsClimbed lib c.args.name l 0) (sym put) (climbed_first lib under c.in_ok-callers.ensures c.args.name)

pub loop-next-preserved : goal.loop-next-preserved
loop-next-preserved g c =
    let lib : Library = programs_of (g.V.View.store c.args.view.now) in
    let under : ℕ → List ℕ = names_under c.in_ok-callers.callers in
    let names : List ℕ = c.loop-next.above.keys in
    let at : ℕ = c.loop-next.next in
    let caller : ℕ = get_or c.as_slice.result.now at 0 in
    let lt : at < length names = omega arith in
    let is : caller ≡ get_or names at caller = ap (λ (l : List ℕ). get_or l at 0) c.as_slice.ensures.keys ∙ get_or_default names at 0 caller lt in
    subst (λ (l : List ℕ). IsClimbed lib c.args.name l (at + 1)) (sym {b = insert_all nat_eq names (under caller)} c.in_ok-add_callers-2.ensures)
    (climbed_more lib under c.in_ok-callers.ensures c.args.name names at caller lt is c.loop-next.invariant)

pub returns-clause-exact : goal.returns-clause-exact
returns-clause-exact g c =
    let lib : Library = programs_of (g.V.View.store c.args.view.now) in
    let above : List ℕ = c.loop-next.above.keys in
    let le : length above ≤ c.loop-next.next = omega arith in
    IfOk-weaker c.ascending.result (λ sorted. (q : ℕ) → Contains sorted.items q ↔ Contains above q) (λ sorted. (q : ℕ) → Contains sorted.items q ↔ ReachesByCall lib q c.args.name)
    (λ sorted same q.
    let all = climbed_all lib c.args.name above c.loop-next.next le c.loop-next.invariant q in
    (λ there. all.0 ((same q).0 there), λ path. (same q).1 (all.1 path)))
    c.ascending.ensures.exact
