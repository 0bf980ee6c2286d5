use Rattle.std.proofs.Common.{ℕ, ◌≡◌, ◌∙◌, ap, List, [], ◌∷◌, ◌++◌, rules}
use Rattle.demand_table.proofs.Reached.{joined_here, joined_grows}
use Rattle.demand_table.proofs.reaching.add_caller.Goals as goal

pub returns-clause-grows : goal.returns-clause-grows
returns-clause-grows c =
    let copied : c.in_ok-list.list.items ≡ c.under-found.result.now = search rules in
    joined_grows c.args.callers c.in_ok-next.next c.args.to c.args.from (record { list = c.push.new.self }) c.in_ok-next.ensures
    (c.in_ok-push.ensures.items ∙ ap (λ (l : List ℕ). l ++ c.args.from ∷ []) (copied ∙ c.under-found.ensures))

pub returns-clause-here : goal.returns-clause-here
returns-clause-here c = λ name.
    let copied : c.in_ok-list.list.items ≡ c.under-found.result.now = search rules in
    joined_here c.args.callers c.in_ok-next.next c.args.to c.args.from (record { list = c.push.new.self }) c.in_ok-next.ensures
    (c.in_ok-push.ensures.items ∙ ap (λ (l : List ℕ). l ++ c.args.from ∷ []) (copied ∙ c.under-found.ensures))
