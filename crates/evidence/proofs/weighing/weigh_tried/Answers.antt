use Rattle.std.proofs.Common.{ℕ, ◌≤◌, ◌≡◌, refl, sym, ap, ◌∙◌, subst, arith, length}
use Rattle.std.specs.declared.option.Option.{Option}
use Rattle.std.specs.declared.option.Option.TheVariants.{Some}
use Rattle.program_store.specs.declared.published.Published.{Published}
use Rattle.program_store.specs.Store.{published_at, checked_at, checked_in}
use Rattle.judge.specs.Judged.{Passes}
use Rattle.judge.specs.Passed.{Terms}
use Rattle.judge.proofs.Sides.{if_ok}
use Rattle.evidence.specs.declared.weighing.Weighed.{Weighed}
use Rattle.evidence.specs.Trials.{IsTried, IsWeighed, IsWeighedFor}
use Rattle.judge.proofs.Fresh.{within_ample}
use Rattle.evidence.proofs.Replies.{wrong_reply, passing, growing, new_reply, moved_tried}
use Rattle.evidence.proofs.weighing.weigh_tried.Goals as goal

pub returns-in-Some-clause-weighed : goal.returns-in-Some-clause-weighed
returns-in-Some-clause-weighed g c = λ terms row tried.
    let size : length c.args.tried.costs.items ≡ c.len-index.result = omega (arith, c.args.tried.costs.ok.0, c.len-index.ensures) in
    wrong_reply c.args.tables.now c.args.limit c.args.proposal.now c.len-index.result c.checked_count-old.result c.args.tried.miss c.checked_count-old.ensures c.refused.result c.in-Some.got
    c.in-Some.ensures.some.0 c.in-Some.ensures.some.1 c.refused.ensures.answer c.refused.ensures.runs terms row
    (moved_tried c.args.tables.now terms c.args.limit c.args.proposal.now row c.args.tried.miss (length c.args.tried.costs.items) c.len-index.result size tried)

pub returns-in-None-clause-weighed : goal.returns-in-None-clause-weighed
returns-in-None-clause-weighed g c = λ terms row tried.
    let size : length c.args.tried.costs.items ≡ c.len-index.result = omega (arith, c.args.tried.costs.ok.0, c.len-index.ensures) in
    new_reply c.args.tables.now c.args.limit c.args.proposal.now c.len-index.result c.checked_count-old.result c.args.tried.miss c.checked_count-old.ensures c.in_default.ensures.none _
    c.args.tried.costs.items c.args.tried.runs.items (within_ample c.args.limit c.ranges.limit.fits) (sym c.in-None.ensures.value) size c.requires.first refl c.of.ensures terms row
    (moved_tried c.args.tables.now terms c.args.limit c.args.proposal.now row c.args.tried.miss (length c.args.tried.costs.items) c.len-index.result size tried)

pub weigh_replacement-requires-clause-grows : goal.weigh_replacement-requires-clause-grows
weigh_replacement-requires-clause-grows g c =
    let size : length c.args.tried.costs.items ≡ c.len-index.result = omega (arith, c.args.tried.costs.ok.0, c.len-index.ensures) in
    let t = c.requires.tried in
    let there = moved_tried c.args.tables.now t.0 c.args.limit c.args.proposal.now t.1 c.args.tried.miss (length c.args.tried.costs.items) c.len-index.result size t.2 in
    let h = growing c.args.tables.now c.args.limit c.args.proposal.now c.len-index.result c.checked_count-old.result c.args.tried.miss c.checked_count-old.ensures c.in_default.ensures.none t.0 t.1 there in
    let old = c.checked_count-old.ensures in
    let here : c.in-Some-published.published.now.checked ≡ checked_at c.args.tables.now c.args.proposal.now.name = ap checked_in c.in-Some-published.ensures.value in
    let items = ap length c.deref.ensures.value in
    omega (arith, h, old, here, size, items)

pub returns-clause-weighed : goal.returns-clause-weighed
returns-clause-weighed g c =
    let s = c.args.tables.now in
    let n = c.len-index.result in
    let size : length c.args.tried.costs.items ≡ n = omega (arith, c.args.tried.costs.ok.0, c.len-index.ensures) in
    let there : n ≡ length c.deref.result.now = sym size ∙ sym (ap length c.deref.ensures.value) in
    if_ok c.weigh_replacement.result (IsWeighedFor s c.args.limit c.args.proposal.now (length c.deref.result.now)) _
    (λ (w : Weighed) h. λ terms row tried.
    let mine = moved_tried s terms c.args.limit c.args.proposal.now row c.args.tried.miss (length c.args.tried.costs.items) n size tried in
    h terms row tried.sound
    (subst (λ (m : ℕ). Passes s terms c.args.limit c.args.proposal.now.name c.args.proposal.now.program row m) there
    (passing s c.args.limit c.args.proposal.now n c.checked_count-old.result c.args.tried.miss c.checked_count-old.ensures c.in_default.ensures.none terms row mine)))
    c.weigh_replacement.ensures.weighed
