use Rattle.std.proofs.Common.{◌≡◌}
use Rattle.std.proofs.lemmas.Result.{IfOk-weaker}
use Rattle.program_store.specs.Store.{programs_of}
use Rattle.carry_over.proofs.Below.{calls_tell}
use Rattle.carry_over.proofs.reach.names_below.Goals as goal

pub returns-in-Some : goal.returns-in-Some
returns-in-Some g c =
    let s = g.V.View.store c.args.view.now in
    let lib = g.V.Library.programs c.args.view.now in
    let same : lib ≡ programs_of s = λ i n. g.met.V.View.same_programs c.args.view.now n i in
    IfOk-weaker c.descendants.result _ _
    (λ names exact r.
    let told = calls_tell s lib same c.args.name c.in-Some.published.now c.in-Some.ensures.value r in
    (λ h. told.0 ((exact r).0 h), λ h. (exact r).1 (told.1 h)))
    c.descendants.ensures.exact
