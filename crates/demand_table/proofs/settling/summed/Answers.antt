use Rattle.std.proofs.Common.{◌+◌, ◌<◌, ◌≡◌, ◌∙◌, ◌^◌, sym, ap, arith, get_or}
use Rattle.std.specs.declared.option.Option.TheVariants.{None}
use Rattle.std.proofs.lemmas.List.Elements.{at_read}
use Rattle.std.proofs.lemmas.List.Sums.{sum_by_more, sum_by_more_le}
use Rattle.loda_semantics.specs.declared.kinds.Pair.{Pair}
use Rattle.demand_table.specs.Loaded.{slots_of}
use Rattle.demand_table.proofs.settling.summed.Goals as goal

pub overflow_add-sum : goal.overflow_add-sum
overflow_add-sum c =
    let t = c.requires.fits.0 in
    let right = c.requires.fits.1 in
    let calls = c.args.calls.now in
    let i = c.loop-at.at in
    let call = c.index-calls-at.result in
    let so_far = c.loop-at.invariant t right in
    let stands = c.requires.stand call (i, c.loop-at-test.true, sym c.index-calls-at.is) in
    let here : c.in-Some.total ≡ t call = right call c.in-Some.total stands (sym c.in-Some.ensures) in
    let same : t call ≡ t (get_or calls i call) = ap t c.index-calls-at.is in
    let le = sum_by_more_le t calls i call c.loop-at-test.true in
    let lt = c.requires.fits.2 in
    let sum : c.loop-at.sum + c.in-Some.total < 2 ^ 64 = omega arith in
    omega arith

pub loop-at-preserved : goal.loop-at-preserved
loop-at-preserved c = λ t right.
    let calls = c.args.calls.now in
    let i = c.loop-at.at in
    let call = c.index-calls-at.result in
    let so_far = c.loop-at.invariant t right in
    let more = sum_by_more t calls i call c.loop-at-test.true in
    let same : t call ≡ t (get_or calls i call) = ap t c.index-calls-at.is in
    let stands = c.requires.stand call (i, c.loop-at-test.true, sym c.index-calls-at.is) in
    let here : c.in-Some.total ≡ t call = right call c.in-Some.total stands (sym c.in-Some.ensures) in
    omega arith

pub returns-in-None-clause-found : goal.returns-in-None-clause-found
returns-in-None-clause-found c =
    at_read c.args.calls.now (λ (q : Pair). (slots_of c.args.known.now.pages.now c.args.work.now q).total ≡ None) c.loop-at.at c.index-calls-at.result c.loop-at-test.true c.index-calls-at.is
    (sym c.total.ensures ∙ c.in-None.is)
