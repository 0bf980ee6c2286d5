use Rattle.std.proofs.Common.{subst}
use Rattle.std.specs.declared.option.Option.{Option}
use Rattle.judge.specs.declared.comparing.Changed.{Changed}
use Rattle.judge.specs.Changes.{runs_at, Relies, OtherValue, NeedsMoreSteps, IsLeastChangeOrNone}
use Rattle.judge.proofs.Replaced.{had_value, judged_broken, judged_costlier, judged_no_gain, judged_gain}
use Rattle.judge.proofs.replacing.replacement_answer.Goals as goal

pub broken-requires : goal.broken-requires
broken-requires g c =
    let s = g.V.View.store c.args.view.now in
    let q = c.args.proposal.now.name in
    let p = c.args.proposal.now.program in
    had_value s c.args.limit q p OtherValue c.in-Some.changed c.ranges.limit.fits c.requires.sound
    (subst (λ (o : Option Changed). IsLeastChangeOrNone OtherValue (runs_at s c.args.limit q p) (Relies s q) o) c.in-Some.is c.in_ok-changes.ensures.other_value)

pub returns-in-Some : goal.returns-in-Some
returns-in-Some g c = λ terms row sound passes.
    let s = g.V.View.store c.args.view.now in
    let q = c.args.proposal.now.name in
    let p = c.args.proposal.now.program in
    judged_broken s c.args.limit q p c.args.checked c.args.published.now c.requires.published terms row sound passes c.in-Some.changed c.broken.result
    (subst (λ (o : Option Changed). IsLeastChangeOrNone OtherValue (runs_at s c.args.limit q p) (Relies s q) o) c.in-Some.is c.in_ok-changes.ensures.other_value) c.broken.ensures

pub returns-in-Some-more_steps : goal.returns-in-Some-more_steps
returns-in-Some-more_steps g c = λ terms row sound passes.
    let s = g.V.View.store c.args.view.now in
    let q = c.args.proposal.now.name in
    let p = c.args.proposal.now.program in
    judged_costlier s c.args.limit q p c.args.checked c.args.published.now c.requires.published terms row sound passes
    (subst (λ (o : Option Changed). IsLeastChangeOrNone OtherValue (runs_at s c.args.limit q p) (Relies s q) o) c.in_default.is c.in_ok-changes.ensures.other_value)
    c.in-Some-more_steps.changed c.costlier.result
    (subst (λ (o : Option Changed). IsLeastChangeOrNone NeedsMoreSteps (runs_at s c.args.limit q p) (Relies s q) o) c.in-Some-more_steps.is c.in_ok-changes.ensures.more_steps) c.costlier.ensures

pub returns-then-branch : goal.returns-then-branch
returns-then-branch g c = λ terms row sound passes.
    let s = g.V.View.store c.args.view.now in
    let q = c.args.proposal.now.name in
    let p = c.args.proposal.now.program in
    judged_no_gain s c.args.limit q p c.args.checked c.args.published.now c.requires.published terms row sound passes
    (subst (λ (o : Option Changed). IsLeastChangeOrNone OtherValue (runs_at s c.args.limit q p) (Relies s q) o) c.in_default.is c.in_ok-changes.ensures.other_value)
    (subst (λ (o : Option Changed). IsLeastChangeOrNone NeedsMoreSteps (runs_at s c.args.limit q p) (Relies s q) o) c.in_default-more_steps.is c.in_ok-changes.ensures.more_steps)
    (c.in_ok-brings_nothing.ensures.0 c.if-branch.true)

pub returns : goal.returns
returns g c = λ terms row sound passes.
    let s = g.V.View.store c.args.view.now in
    let q = c.args.proposal.now.name in
    let p = c.args.proposal.now.program in
    judged_gain s c.args.limit q p c.args.checked c.args.published.now c.requires.published terms row sound passes
    (subst (λ (o : Option Changed). IsLeastChangeOrNone OtherValue (runs_at s c.args.limit q p) (Relies s q) o) c.in_default.is c.in_ok-changes.ensures.other_value)
    (subst (λ (o : Option Changed). IsLeastChangeOrNone NeedsMoreSteps (runs_at s c.args.limit q p) (Relies s q) o) c.in_default-more_steps.is c.in_ok-changes.ensures.more_steps)
    (λ h. let t = c.in_ok-brings_nothing.ensures.1 h in let f = c.if-branch.false in cc)
