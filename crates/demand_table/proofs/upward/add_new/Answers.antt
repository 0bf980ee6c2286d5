use Rattle.std.proofs.Common.{ℕ, ◌≡◌, ◌∙◌, sym, ap, subst, take, get_or, List, [], ◌∷◌, ◌++◌, Contains}
use Rattle.std.proofs.lemmas.List.Elements.{Contains-push}
use Rattle.demand_table.specs.Upward.{AddsNames, IsMetOnly}
use Rattle.demand_table.proofs.Rising.{upto_name, adds_again, adds_more, met_only, met_longer, was_there}
use Rattle.demand_table.proofs.upward.add_new.Goals as goal
use Rattle.demand_table.proofs.upward.add_new.Goals.{then-branch+in_ok-push, else-branch}

pub loop-name-preserved : goal.loop-name-preserved
loop-name-preserved c =
    let old = c.args.names.now.items in
    let now = c.loop-name.names.items in
    let after = c.if-branch.names.items in
    let found = c.args.found.now in
    let i = c.loop-name.name-index in
    let name = get_or found i 0 in
    let done = take i found in
    let h = c.loop-name.invariant in
    let e = upto_name found i c.loop-name-test.true in
    let both : AddsNames old after (done ++ name ∷ []) × IsMetOnly c.insert.new.self after = elim c.if-branch.branch [
      | then-branch+in_ok-push w ↦
          let is : after ≡ now ++ name ∷ [] = ap (λ v. v.items) w.names-is ∙ w.in_ok-push.ensures.items in
          let there : Contains after name = subst (λ (l : List ℕ). Contains l name) (sym is) (Contains-push now name) in
          (adds_more old now after done name h.adds is, met_only c.loop-name.met c.insert.new.self after name c.in_ok-insert.ensures.updates (met_longer c.loop-name.met now after name is h.met) there)
      | else-branch w ↦
          let is : after ≡ now = ap (λ v. v.items) w.names-is in
          let there = was_there c.loop-name.met now name c.in_ok-insert.field-0 h.met c.in_ok-insert.ensures.added w.if-branch.false in
          subst (λ (l : List ℕ). AddsNames old l (done ++ name ∷ []) × IsMetOnly c.insert.new.self l) (sym is)
          (adds_again old now done name h.adds there, met_only c.loop-name.met c.insert.new.self now name c.in_ok-insert.ensures.updates h.met there)
    ] in
    record { adds = subst (λ (l : List ℕ). AddsNames old after l) (sym e) both.0; met = both.1 }
