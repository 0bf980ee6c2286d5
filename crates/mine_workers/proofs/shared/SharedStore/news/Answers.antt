use Rattle.std.proofs.Common.{ℕ, ◌≤◌, ◌≡◌, ◌∙◌, rules, sym, ap, subst, List, arith}
use Rattle.std.specs.Prelude.{reverse}
use Rattle.turnstile.specs.Seats.{TurnstileView}
use Rattle.publish_desk.specs.declared.charter.Charter.{Charter}
use Rattle.publish_desk.specs.declared.entry.Entry.{Entry}
use Rattle.publish_desk.specs.History.{version_of}
use Rattle.mine_workers.specs.Shared.{IsLegalFor}
use Rattle.mine_workers.proofs.Onward.{version_on}
use Rattle.mine_workers.proofs.Found.{legal_for, looked}
use Rattle.mine_workers.proofs.Telling.{snapshot_told, changes_told, sound_told, grown_told}
use Rattle.mine_workers.proofs.shared.SharedStore.news.Goals as goal

pub since-told-requires : goal.since-told-requires
since-told-requires g c =
    let found = c.take-found.result.desk in
    let on : version_of (reverse c.args.seat.now.known.seen) ≤ version_of (reverse found.journal) = version_on c.args.seat.now.known.seen found.journal c.take-found.ensures.value.0 in
    let now = c.version.ensures.kept.version in
    let since = c.requires.since in
    omega (arith, on, now, since)

pub returns-clause-seat : goal.returns-clause-seat
returns-clause-seat g c =
    let taken = c.take-found.ensures.value in
    let found = c.take-found.result.desk in
    let fixed : found.charter ≡ c.args.self.now.fixed = taken.2 ∙ ap (λ (s : TurnstileView Charter). s.fixed) c.self.view_is in
    let known = looked c.args.seat.now.known c.take-found.new.seat.known c.give.new.seat.known found.journal c.requires.idle taken.0 taken.1 c.take-found.ensures.seat c.give.ensures.seat in
    (search rules, subst (λ (l : List Entry). IsLegalFor c.args.self.now.fixed l) (sym known.1) (legal_for c.args.self.now.fixed found c.version.ensures.kept fixed))

pub returns-clause-shown : goal.returns-clause-shown
returns-clause-shown g c =
    let taken = c.take-found.ensures.value in
    let found = c.take-found.result.desk in
    let fixed : found.charter ≡ c.args.self.now.fixed = taken.2 ∙ ap (λ (s : TurnstileView Charter). s.fixed) c.self.view_is in
    let known = looked c.args.seat.now.known c.take-found.new.seat.known c.give.new.seat.known found.journal c.requires.idle taken.0 taken.1 c.take-found.ensures.seat c.give.ensures.seat in
    snapshot_told c.args.self.now.fixed found c.version.ensures.kept fixed c.since-told.result c.give.new.seat.known.seen known.1 c.since-told.ensures.snapshot

pub returns-clause-changes : goal.returns-clause-changes
returns-clause-changes g c =
    let taken = c.take-found.ensures.value in
    let found = c.take-found.result.desk in
    let fixed : found.charter ≡ c.args.self.now.fixed = taken.2 ∙ ap (λ (s : TurnstileView Charter). s.fixed) c.self.view_is in
    let known = looked c.args.seat.now.known c.take-found.new.seat.known c.give.new.seat.known found.journal c.requires.idle taken.0 taken.1 c.take-found.ensures.seat c.give.ensures.seat in
    changes_told c.args.self.now.fixed found c.version.ensures.kept fixed c.since-told.result c.give.new.seat.known.seen c.args.since known.1 c.since-told.ensures.changes

pub returns-clause-sound : goal.returns-clause-sound
returns-clause-sound g c =
    let taken = c.take-found.ensures.value in
    let found = c.take-found.result.desk in
    let fixed : found.charter ≡ c.args.self.now.fixed = taken.2 ∙ ap (λ (s : TurnstileView Charter). s.fixed) c.self.view_is in
    sound_told c.args.self.now.fixed found c.version.ensures.kept fixed c.since-told.result c.since-told.ensures.snapshot

pub returns-clause-grown : goal.returns-clause-grown
returns-clause-grown g c = grown_told c.take-found.result.desk c.version.ensures.kept c.since-told.result c.args.seat.now.known.seen c.take-found.ensures.value.0 c.since-told.ensures.snapshot
