use Rattle.std.proofs.Common.{ℕ, refl, sym, subst, List, length}
use Rattle.std.specs.Prelude.{◌⊎◌}
use Rattle.program_store.specs.Store.{after}
use Rattle.seq_calls.specs.declared.outcomes.NodeRun.{NodeRun}
use Rattle.seq_calls.specs.Demand.{InDem, LeastCaller}
use Rattle.demand_table.specs.declared.caller.Caller.{Caller}
use Rattle.evidence.specs.declared.comparing.Compared.{Compared}
use Rattle.evidence.specs.declared.comparing.Compared.TheVariants.{Broken, Kept}
use Rattle.evidence.specs.Runs.{AreRunsAt, IsFirst}
use Rattle.evidence.specs.Trials.{IsCompared}
use Rattle.judge.proofs.Fresh.{within_ample}
use Rattle.evidence.proofs.Replies.{broken_reply, costlier_reply, no_gain_reply, gain_reply, if_some, if_none, demanded_spent_by}
use Rattle.evidence.proofs.weighing.weigh_replacement.Goals as goal

pub returns-in_err-at-clause-spent : goal.returns-in_err-at-clause-spent
returns-in_err-at-clause-spent g c =
    demanded_spent_by c.args.tables.now c.args.proposal.now.name c.args.limit c.args.steps.now c.compare_demanded.new.steps c.in_ok-demanded.demanded.items c.deref.result.now c.deref.ensures.value c.in_ok-demanded.ensures c.compare_demanded.ensures.spent

pub returns-in_err-caller-in-Broken-clause-spent : goal.returns-in_err-caller-in-Broken-clause-spent
returns-in_err-caller-in-Broken-clause-spent g c =
    demanded_spent_by c.args.tables.now c.args.proposal.now.name c.args.limit c.args.steps.now c.compare_demanded.new.steps c.in_ok-demanded.demanded.items c.deref.result.now c.deref.ensures.value c.in_ok-demanded.ensures c.compare_demanded.ensures.spent

pub returns-in-Some-clause-weighed : goal.returns-in-Some-clause-weighed
returns-in-Some-clause-weighed g c =
    let s = c.args.tables.now in
    let q = c.args.proposal.now.name in
    let p = c.args.proposal.now.program in
    let limit = c.args.limit in
    let k : ℕ = length c.args.costs.now in
    let compared : IsCompared s limit q p k (Broken c.in-Broken.at c.in-Broken.was c.in-Broken.now) = subst (λ (z : Compared). IsCompared s limit q p k z) c.in-Broken.is (c.in_ok-at.ensures.compared k c.requires.first.frames) in
    broken_reply s limit c.args.proposal.now k c.args.published.now c.requires.published c.refused.result c.in-Broken.at c.in-Broken.was c.in-Broken.now c.in-Some.caller.name c.in-Some.caller.index
    c.refused.ensures.answer c.refused.ensures.runs compared.0 compared.1 compared.2
    (if_some c.in_ok-caller-in-Broken.field-0 c.in-Some.caller (λ (d : Caller). LeastCaller s q c.in-Broken.at d.name d.index) c.in-Some.is c.in_ok-caller-in-Broken.ensures.some)

pub returns-in-Some-clause-spent : goal.returns-in-Some-clause-spent
returns-in-Some-clause-spent g c =
    demanded_spent_by c.args.tables.now c.args.proposal.now.name c.args.limit c.args.steps.now c.compare_demanded.new.steps c.in_ok-demanded.demanded.items c.deref.result.now c.deref.ensures.value c.in_ok-demanded.ensures c.compare_demanded.ensures.spent

pub unreachable-requires : goal.unreachable-requires
unreachable-requires g c =
    let s = c.args.tables.now in
    let q = c.args.proposal.now.name in
    let p = c.args.proposal.now.program in
    let limit = c.args.limit in
    let k : ℕ = length c.args.costs.now in
    let compared : IsCompared s limit q p k (Broken c.in-Broken.at c.in-Broken.was c.in-Broken.now) = subst (λ (z : Compared). IsCompared s limit q p k z) c.in-Broken.is (c.in_ok-at.ensures.compared k c.requires.first.frames) in
    if_none c.in_ok-caller-in-Broken.field-0 _ c.in-None.is c.in_ok-caller-in-Broken.ensures.none compared.0.0.0

pub returns-in-Some-lesser-clause-weighed : goal.returns-in-Some-lesser-clause-weighed
returns-in-Some-lesser-clause-weighed g c =
    let s = c.args.tables.now in
    let q = c.args.proposal.now.name in
    let p = c.args.proposal.now.program in
    let limit = c.args.limit in
    let k : ℕ = length c.args.costs.now in
    let compared : IsCompared s limit q p k (Kept c.in-Kept.runs c.in-Kept.dearer) = subst (λ (z : Compared). IsCompared s limit q p k z) c.in-Kept.is (c.in_ok-at.ensures.compared k c.requires.first.frames) in
    costlier_reply s limit c.args.proposal.now k c.args.published.now c.requires.published c.refused-in-Some-lesser.result c.first_dearer-first.result c.in-Kept.dearer c.lesser.result c.lesser.ensures
    compared.0 c.first_dearer-first.ensures compared.2 c.in-Some-lesser.least c.in-Some-lesser.is c.refused-in-Some-lesser.ensures.answer c.refused-in-Some-lesser.ensures.runs

pub returns-in-Some-lesser-clause-spent : goal.returns-in-Some-lesser-clause-spent
returns-in-Some-lesser-clause-spent g c =
    demanded_spent_by c.args.tables.now c.args.proposal.now.name c.args.limit c.args.steps.now c.compare_demanded.new.steps c.in_ok-demanded.demanded.items c.deref.result.now c.deref.ensures.value c.in_ok-demanded.ensures c.compare_demanded.ensures.spent

pub returns-then-brings_nothing-clause-weighed : goal.returns-then-brings_nothing-clause-weighed
returns-then-brings_nothing-clause-weighed g c =
    let s = c.args.tables.now in
    let q = c.args.proposal.now.name in
    let p = c.args.proposal.now.program in
    let limit = c.args.limit in
    let k : ℕ = length c.args.costs.now in
    let compared : IsCompared s limit q p k (Kept c.in-Kept.runs c.in-Kept.dearer) = subst (λ (z : Compared). IsCompared s limit q p k z) c.in-Kept.is (c.in_ok-at.ensures.compared k c.requires.first.frames) in
    no_gain_reply s limit c.args.proposal.now k c.args.published.now c.requires.published c.refused-then-brings_nothing.result c.first_dearer-first.result c.in-Kept.dearer c.lesser.result c.lesser.ensures
    compared.0 c.first_dearer-first.ensures compared.2 c.in_default.is (c.brings_nothing.ensures.0 c.if-brings_nothing.true) c.refused-then-brings_nothing.ensures.answer c.refused-then-brings_nothing.ensures.runs

pub returns-then-brings_nothing-clause-spent : goal.returns-then-brings_nothing-clause-spent
returns-then-brings_nothing-clause-spent g c =
    demanded_spent_by c.args.tables.now c.args.proposal.now.name c.args.limit c.args.steps.now c.compare_demanded.new.steps c.in_ok-demanded.demanded.items c.deref.result.now c.deref.ensures.value c.in_ok-demanded.ensures c.compare_demanded.ensures.spent

pub returns-clause-weighed : goal.returns-clause-weighed
returns-clause-weighed g c =
    let s = c.args.tables.now in
    let q = c.args.proposal.now.name in
    let p = c.args.proposal.now.program in
    let limit = c.args.limit in
    let k : ℕ = length c.args.costs.now in
    let compared : IsCompared s limit q p k (Kept c.in-Kept.runs c.in-Kept.dearer) = subst (λ (z : Compared). IsCompared s limit q p k z) c.in-Kept.is (c.in_ok-at.ensures.compared k c.requires.first.frames) in
    gain_reply s limit c.args.proposal.now k c.args.published.now c.requires.published _ c.first_dearer-first.result c.in-Kept.dearer c.lesser.result c.lesser.ensures
    compared.0 c.first_dearer-first.ensures compared.2 c.in_default.is (within_ample c.args.limit c.ranges.limit.fits) (λ h. let t = c.brings_nothing.ensures.1 h in let f = c.if-brings_nothing.false in cc) refl
    (subst (λ (l : List NodeRun). AreRunsAt (after s q p) q limit (λ x. IsFirst k x ⊎ InDem s q x) l) (sym c.of.ensures) compared.1)

pub returns-clause-spent : goal.returns-clause-spent
returns-clause-spent g c =
    demanded_spent_by c.args.tables.now c.args.proposal.now.name c.args.limit c.args.steps.now c.compare_demanded.new.steps c.in_ok-demanded.demanded.items c.deref.result.now c.deref.ensures.value c.in_ok-demanded.ensures c.compare_demanded.ensures.spent
