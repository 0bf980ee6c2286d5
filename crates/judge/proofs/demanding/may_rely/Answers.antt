use Rattle.judge.proofs.Traces.{may_tells}
use Rattle.judge.proofs.demanding.may_rely.Goals as goal

pub returns-in_ok-first-in-Some : goal.returns-in_ok-first-in-Some
returns-in_ok-first-in-Some g c =
    may_tells (g.V.View.store c.args.view.now) (g.V.Library.programs c.args.view.now) (λ i n. g.met.V.View.same_programs c.args.view.now n i)
    c.args.on c.args.name c.in-Some.published.now c.in-Some.ensures.value c.if-name-on.false
    c.in_ok-first-in-Some.first c.in_ok-first-in-Some.ensures.some c.in_ok-first-in-Some.ensures.none c.is_some.result c.is_some.ensures
