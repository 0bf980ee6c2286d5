use Rattle.std.proofs.Common.{◌≡◌, ◌<◌, ◌∙◌, rules, sym, ap, subst, List}
use Rattle.turnstile.specs.Seats.{TurnstileView}
use Rattle.publish_desk.specs.declared.charter.Charter.{Charter}
use Rattle.publish_desk.specs.declared.entry.Entry.{Entry}
use Rattle.publish_desk.specs.Desk.{Desk, IsFitting}
use Rattle.mine_workers.specs.Shared.{IsLegalFor}
use Rattle.mine_workers.proofs.Onward.{fits_on}
use Rattle.mine_workers.proofs.Found.{is_desk_of, legal_for, same_charter, published, again_bounded}
use Rattle.mine_workers.proofs.shared.SharedStore.publish.Goals as goal

pub publish-verdict-requires : goal.publish-verdict-requires
publish-verdict-requires g c =
    let taken = c.take-held.ensures.value in
    let found = c.take-held.result.desk in
    let fixed : found.charter ≡ c.args.self.now.fixed = taken.2 ∙ ap (λ (s : TurnstileView Charter). s.fixed) c.self.view_is in
    subst (λ (x : Desk). IsFitting x c.args.dossier) (sym (is_desk_of c.args.self.now.fixed found c.version.ensures.kept fixed))
    (fits_on c.args.self.now.fixed c.args.seat.now.known.seen found.journal c.args.dossier taken.0 c.requires.fitting)

pub returns-clause-seat : goal.returns-clause-seat
returns-clause-seat g c =
    let taken = c.take-held.ensures.value in
    let found = c.take-held.result.desk in
    let after = c.publish-verdict.new.self in
    let fixed : found.charter ≡ c.args.self.now.fixed = taken.2 ∙ ap (λ (s : TurnstileView Charter). s.fixed) c.self.view_is in
    let verdict = c.publish-verdict.ensures in
    let known = published c.args.self.now.fixed c.args.seat.now.known c.take-held.new.seat.known c.give.new.seat.known found after c.args.dossier c.publish-verdict.result c.requires.idle
    c.version.ensures.kept c.version-2.ensures.kept fixed taken.0 taken.1 c.take-held.ensures.seat verdict c.give.ensures.seat in
    (search rules, subst (λ (l : List Entry). IsLegalFor c.args.self.now.fixed l) (sym known.1) (legal_for c.args.self.now.fixed after c.version-2.ensures.kept (same_charter found after c.args.dossier c.publish-verdict.result verdict ∙ fixed)))

pub returns-clause-published : goal.returns-clause-published
returns-clause-published g c =
    let taken = c.take-held.ensures.value in
    let found = c.take-held.result.desk in
    let after = c.publish-verdict.new.self in
    let fixed : found.charter ≡ c.args.self.now.fixed = taken.2 ∙ ap (λ (s : TurnstileView Charter). s.fixed) c.self.view_is in
    (published c.args.self.now.fixed c.args.seat.now.known c.take-held.new.seat.known c.give.new.seat.known found after c.args.dossier c.publish-verdict.result c.requires.idle
    c.version.ensures.kept c.version-2.ensures.kept fixed taken.0 taken.1 c.take-held.ensures.seat c.publish-verdict.ensures c.give.ensures.seat).0

pub returns-clause-bounded : goal.returns-clause-bounded
returns-clause-bounded g c =
    let taken = c.take-held.ensures.value in
    let found = c.take-held.result.desk in
    let after = c.publish-verdict.new.self in
    let fixed : found.charter ≡ c.args.self.now.fixed = taken.2 ∙ ap (λ (s : TurnstileView Charter). s.fixed) c.self.view_is in
    let verdict = c.publish-verdict.ensures in
    let known = published c.args.self.now.fixed c.args.seat.now.known c.take-held.new.seat.known c.give.new.seat.known found after c.args.dossier c.publish-verdict.result c.requires.idle
    c.version.ensures.kept c.version-2.ensures.kept fixed taken.0 taken.1 c.take-held.ensures.seat verdict c.give.ensures.seat in
    again_bounded c.args.self.now.fixed found after c.args.dossier c.publish-verdict.result c.give.new.seat.known.seen c.version.ensures.kept fixed c.requires.fitting.listed verdict known.1
