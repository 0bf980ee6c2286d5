use Rattle.std.proofs.Common.{◌≡◌, ◌∙◌, sym, ap, subst, take, List, [], ◌∷◌, ◌++◌}
use Rattle.loda_semantics.specs.declared.kinds.Pair.{Pair}
use Rattle.demand_table.specs.Leading.{AddsPairs, HasJust}
use Rattle.demand_table.proofs.Leads.{pairs_none, pairs_again, pairs_more, just_again}
use Rattle.demand_table.proofs.Lowering.{upto, met_more, was_met}
use Rattle.demand_table.proofs.leading.add_pairs.Goals as goal
use Rattle.demand_table.proofs.leading.add_pairs.Goals.{then-branch+in_ok-push, else-branch}

pub loop-pair-init : goal.loop-pair-init
loop-pair-init c = record { adds = pairs_none c.args.pairs.now.items; met = c.requires }

pub loop-pair-preserved : goal.loop-pair-preserved
loop-pair-preserved c =
    let old = c.args.pairs.now.items in
    let now = c.loop-pair.pairs.items in
    let after = c.if-branch.pairs.items in
    let found = c.args.found.now in
    let i = c.loop-pair.pair-index in
    let p = c.pair-item.result in
    let done = take i found in
    let h = c.loop-pair.invariant in
    let e = upto found i p c.loop-pair-test.true c.pair-item.is in
    let both : AddsPairs old after (done ++ p ∷ []) × HasJust c.insert.new.self after = elim c.if-branch.branch [
      | then-branch+in_ok-push w ↦
          let is : after ≡ now ++ p ∷ [] = ap (λ v. v.items) w.pairs-is ∙ w.in_ok-push.ensures.items in
          (pairs_more old now after done p h.adds is, subst (λ (l : List Pair). HasJust c.insert.new.self l) (sym is) (met_more c.loop-pair.met c.insert.new.self now p c.in_ok-insert.ensures.updates h.met))
      | else-branch w ↦
          let is : after ≡ now = ap (λ v. v.items) w.pairs-is in
          let there = was_met c.loop-pair.met now p c.in_ok-insert.field-0 h.met c.in_ok-insert.ensures.added w.if-branch.false in
          subst (λ (l : List Pair). AddsPairs old l (done ++ p ∷ []) × HasJust c.insert.new.self l) (sym is)
          (pairs_again old now done p h.adds there, just_again c.loop-pair.met c.insert.new.self now p c.in_ok-insert.ensures.updates h.met there)
    ] in
    record { adds = subst (λ (l : List Pair). AddsPairs old after l) (sym e) both.0; met = both.1 }
