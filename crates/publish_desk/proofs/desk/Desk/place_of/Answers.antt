use Rattle.std.proofs.Common.{◌-◌, ◌<◌, sym, subst, arith}
use Rattle.publish_desk.specs.History.{IsDoneAt, IsMissing}
use Rattle.publish_desk.specs.Desk.{Desk}
use Rattle.publish_desk.proofs.Places.{place_at, done_at, missing_at}
use Rattle.publish_desk.proofs.desk.Desk.place_of.Goals as goal

pub returns-then-noted-gt0-clause-some : goal.returns-then-noted-gt0-clause-some
returns-then-noted-gt0-clause-some c =
    let inside = c.self.inside in
    let job = c.args.job in
    let n = c.index-noted.result.now in
    let listed : job < inside.jobs = subst (λ (d : Desk). job < d.charter.jobs) (sym c.self.view_is) c.requires in
    let place = place_at inside.jobs inside.journal.items inside.places.items job n c.self.invariant.2 listed c.index-noted.ensures in
    let some = c.if-noted-gt0.true in
    subst (λ (d : Desk). IsDoneAt d.journal job (n - 1)) c.self.view_is (done_at inside.journal.items job n (n - 1) some (omega (arith, some)) place)

pub returns-else-noted-gt0-clause-none : goal.returns-else-noted-gt0-clause-none
returns-else-noted-gt0-clause-none c =
    let inside = c.self.inside in
    let job = c.args.job in
    let n = c.index-noted.result.now in
    let listed : job < inside.jobs = subst (λ (d : Desk). job < d.charter.jobs) (sym c.self.view_is) c.requires in
    let place = place_at inside.jobs inside.journal.items inside.places.items job n c.self.invariant.2 listed c.index-noted.ensures in
    let none = c.if-noted-gt0.false in
    subst (λ (d : Desk). IsMissing d.journal job) c.self.view_is (missing_at inside.journal.items job n (omega (arith, none)) place)
