use Rattle.std.proofs.Common.{ℕ, ◌≤◌, ◌≡◌, ◌∙◌, ap, subst, arith, List}
use Rattle.std.specs.Prelude.{reverse}
use Rattle.evidence.specs.declared.change.Change.{Change}
use Rattle.carry_over.specs.Carrying.{IsCarried}
use Rattle.publish_desk.specs.History.{changes_after}
use Rattle.publish_desk.specs.Desk.{terms_of}
use Rattle.mine_workers.specs.Publishable.{IsPublishable}
use Rattle.mine_workers.proofs.Publishable.{publishable_on, fitting_here, carried_publishable}
use Rattle.mine_workers.proofs.renewing.carried.Goals as goal

pub news-requires-clause-since : goal.news-requires-clause-since
news-requires-clause-since g c =
    let is = c.seen.ensures in
    let within = c.requires.late.fitting.seen in
    omega (arith, is, within)

pub carry-requires : goal.carry-requires
carry-requires g c =
    let fixed = c.args.store.now.fixed in
    let d = c.args.late in
    let seen = c.news.new.seat.known.seen in
    let n = c.in_ok-snapshot.field-0 in
    let on : IsPublishable fixed seen d = publishable_on fixed c.args.seat.now.known.seen seen d c.news.ensures.looked.begins c.requires.late in
    let told : c.list.result.now ≡ changes_after d.snapshot.version (reverse seen) = c.list.ensures ∙ c.in_ok-snapshot.ensures.changes ∙ ap (λ (v : ℕ). changes_after v (reverse seen)) c.seen.ensures in
    record {
      fitting = (terms_of fixed, fixed.limit, fitting_here fixed seen n.snapshot c.in_ok-snapshot.ensures.shown c.in_ok-snapshot.ensures.sound d on c.list.result.now c.requires.chartered c.news.ensures.seat.1 told);
    }

pub returns-clause-came : goal.returns-clause-came
returns-clause-came g c =
    let d = c.args.late in
    let seen = c.news.new.seat.known.seen in
    let n = c.in_ok-snapshot.field-0 in
    let told : c.list.result.now ≡ changes_after d.snapshot.version (reverse seen) = c.list.ensures ∙ c.in_ok-snapshot.ensures.changes ∙ ap (λ (v : ℕ). changes_after v (reverse seen)) c.seen.ensures in
    subst (λ (l : List Change). IsCarried d n.snapshot l c.in_ok-result.result) told c.in_ok-result.ensures

pub returns-clause-publishable : goal.returns-clause-publishable
returns-clause-publishable g c =
    let fixed = c.args.store.now.fixed in
    let d = c.args.late in
    let seen = c.news.new.seat.known.seen in
    let n = c.in_ok-snapshot.field-0 in
    let on : IsPublishable fixed seen d = publishable_on fixed c.args.seat.now.known.seen seen d c.news.ensures.looked.begins c.requires.late in
    let told : c.list.result.now ≡ changes_after d.snapshot.version (reverse seen) = c.list.ensures ∙ c.in_ok-snapshot.ensures.changes ∙ ap (λ (v : ℕ). changes_after v (reverse seen)) c.seen.ensures in
    let fits = fitting_here fixed seen n.snapshot c.in_ok-snapshot.ensures.shown c.in_ok-snapshot.ensures.sound d on c.list.result.now c.requires.chartered c.news.ensures.seat.1 told in
    carried_publishable fixed seen n.snapshot c.in_ok-snapshot.ensures.shown c.in_ok-snapshot.ensures.sound d on c.list.result.now c.in_ok-result.result fits c.in_ok-result.ensures
