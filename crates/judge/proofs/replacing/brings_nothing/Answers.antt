use Rattle.std.proofs.Common.{ap, length, arith, ◌≤◌}
use Rattle.std.specs.Prelude.{IsTrue, ◌↔◌}
use Rattle.loda_syntax.specs.Programs.{instrs}
use Rattle.judge.specs.Replaced.{TakesSameSteps, BringsNothing}
use Rattle.judge.proofs.Sides.{if_ok, nothing_if}
use Rattle.judge.proofs.replacing.brings_nothing.Goals as goal

pub returns : goal.returns
returns g c =
    let s = g.V.View.store c.args.view.now in
    let q = c.args.proposal.now.name in
    let p = c.args.proposal.now.program in
    let e = c.args.published.now in
    let size : length (instrs e.program) ≤ length (instrs p) = (let new = ap length c.instrs.ensures.value in let old = ap length c.instrs-2.ensures.value in omega (arith, c.if-instrs.false, new, old)) in
    if_ok c.takes_same_steps.result (λ b. IsTrue b ↔ TakesSameSteps s c.args.limit q p c.args.checked) (λ b. IsTrue b ↔ BringsNothing s c.args.limit q p e c.args.checked)
    (λ b h. nothing_if s c.args.limit q p e c.args.checked c.if-checked-published.false size b h) c.takes_same_steps.ensures
