use Rattle.std.proofs.Common.{◌+◌, arith, sum_by, ◌≡◌, ◌∙◌, sym, ap, subst, List, Contains}
use Rattle.std.specs.declared.option.Option.TheVariants.{Some, None}
use Rattle.loda_semantics.specs.declared.kinds.Pair.{Pair}
use Rattle.demand_table.specs.declared.entry.Entry.{Entry}
use Rattle.demand_table.specs.Drawn.{RunCalls}
use Rattle.demand_table.specs.Work.{Slots, runs_in}
use Rattle.demand_table.specs.Settling.{CanSettle, IsUnsettled}
use Rattle.demand_table.specs.Loaded.{slots_of}
use Rattle.demand_table.proofs.settling.step.Goals as goal

a_call : (w : Slots) (p to : Pair) (e : Entry) (calls : List Pair) → CanSettle w → (w p).entry ≡ Some e → calls ≡ e.calls → Contains calls to → (w to).total ≡ None
    → RunCalls (runs_in w) p to × IsUnsettled w to
a_call w p to e calls can is same at unknown =
    let call : RunCalls (runs_in w) p to = (e, is, subst (λ (l : List Pair). Contains l to) same at) in
    (call, record { stands = can.closed p to call; unknown = unknown })

pub returns-in-Some : goal.returns-in-Some
returns-in-Some c =
    a_call (slots_of c.args.known.now.pages.now c.args.work.now) c.args.pair.now c.index-calls-at.result c.run-entry.result.now c.list-calls.result.now c.requires.can c.run-entry.ensures c.list-calls.ensures
    (c.in-Some.at, c.in-Some.ensures.range, sym c.index-calls-at.is)
    (subst (λ (q : Pair). (slots_of c.args.known.now.pages.now c.args.work.now q).total ≡ None) (sym c.index-calls-at.is) (c.in-Some.ensures.found c.index-calls-at.result))

pub returns-in-Err : goal.returns-in-Err
returns-in-Err c =
    a_call (slots_of c.args.known.now.pages.now c.args.work.now) c.args.pair.now c.index-calls-at-in-Err.result c.run-entry.result.now c.list-calls.result.now c.requires.can c.run-entry.ensures c.list-calls.ensures
    (c.in-Err.at, c.in-Err.ensures.range, sym c.index-calls-at-in-Err.is)
    (subst (λ (q : Pair). (slots_of c.args.known.now.pages.now c.args.work.now q).total ≡ None) (sym c.index-calls-at-in-Err.is) (c.in-Err.ensures.found c.index-calls-at-in-Err.result))

sums : (w : Slots) (p : Pair) (e : Entry) (calls : List Pair) (can : CanSettle w) → (w p).entry ≡ Some e → calls ≡ e.calls → can.total p ≡ e.own + sum_by can.total calls
sums w p e calls can is same = can.sums p e is ∙ ap (λ (l : List Pair). e.own + sum_by can.total l) (sym same)

pub returns-in-Ok : goal.returns-in-Ok
returns-in-Ok c = λ can. c.in-Ok.ensures.sum can.total can.right ∙ sym (sums (slots_of c.args.known.now.pages.now c.args.work.now) c.args.pair.now c.run-entry.result.now c.list-calls.result.now can c.run-entry.ensures c.list-calls.ensures)

pub summed-requires-clause-fits : goal.summed-requires-clause-fits
summed-requires-clause-fits c =
    let can = c.requires.can in
    let w = slots_of c.args.known.now.pages.now c.args.work.now in
    let e = sums w c.args.pair.now c.run-entry.result.now c.list-calls.result.now can c.run-entry.ensures c.list-calls.ensures in
    let fit = can.fit c.args.pair.now c.requires.unsettled.stands in
    (can.total, can.right, omega arith)

pub summed-requires-clause-stand : goal.summed-requires-clause-stand
summed-requires-clause-stand c = λ q at.
    c.requires.can.closed c.args.pair.now q (c.run-entry.result.now, c.run-entry.ensures, subst (λ (l : List Pair). Contains l q) c.list-calls.ensures at)
