use Rattle.std.proofs.Common.{◌≡◌, ◌∙◌, sym, subst, List, Contains, arith}
use Rattle.std.specs.Prelude.{IsSome}
use Rattle.std.specs.declared.option.Option.TheVariants.{Some}
use Rattle.loda_semantics.specs.declared.kinds.Pair.{Pair}
use Rattle.demand_table.specs.Drawn.{RunCalls}
use Rattle.demand_table.specs.Work.{runs_in}
use Rattle.demand_table.specs.Loaded.{slots_of}
use Rattle.demand_table.proofs.Counts.{count_some}
use Rattle.demand_table.proofs.Counted.{is_some}
use Rattle.demand_table.proofs.Dead.{called_some, set_callers}
use Rattle.demand_table.proofs.Clearing.{out_none, out_some}
use Rattle.demand_table.proofs.mending.take_out.Goals as goal

pub overflow_sub-left : goal.overflow_sub-left
overflow_sub-left c =
    let w = slots_of c.args.known.now.pages.now c.args.work.now in
    let p = c.args.pair.now in
    let entry : (w p).entry ≡ Some c.in-Some.entry = sym c.in_ok-entry.ensures.entry ∙ c.in-Some.is in
    let lt = count_some (λ (q : Pair). IsSome (w q).entry) c.args.many p c.requires.many (is_some (w p).entry c.in-Some.entry entry) in
    omega arith

pub lower_all-requires : goal.lower_all-requires
lower_all-requires c = λ q at.
    let w = slots_of c.args.known.now.pages.now c.args.work.now in
    let p = c.args.pair.now in
    let entry : (w p).entry ≡ Some c.in-Some.entry = sym c.in_ok-entry.ensures.entry ∙ c.in-Some.is in
    let call : RunCalls (runs_in w) p q = (c.in-Some.entry, entry, subst (λ (l : List Pair). Contains l q) c.list.ensures at) in
    let some = called_some w p q c.requires.counted call in
    let same = set_callers w (slots_of c.args.known.now.pages.now c.take.new.work) p q c.in_ok-entry.ensures.gone in
    omega arith

pub returns : goal.returns
returns c =
    let w = slots_of c.args.known.now.pages.now c.args.work.now in
    let p = c.args.pair.now in
    let entry : (w p).entry ≡ Some c.in-Some.entry = sym c.in_ok-entry.ensures.entry ∙ c.in-Some.is in
    out_some w (slots_of c.args.known.now.pages.now c.take.new.work) (slots_of c.args.known.now.pages.now c.lower_all.new.work) p c.in-Some.entry c.list.result.now c.args.pending.now.items c.lower_all.new.pending.items c.args.many
    c.requires.counted c.requires.many entry c.in_ok-entry.ensures.gone c.list.ensures c.in_ok-lower_all.ensures

pub returns-in_default : goal.returns-in_default
returns-in_default c =
    let w = slots_of c.args.known.now.pages.now c.args.work.now in
    let p = c.args.pair.now in
    out_none w (slots_of c.args.known.now.pages.now c.take.new.work) p c.args.pending.now.items c.args.many c.requires.counted c.requires.many (sym c.in_ok-entry.ensures.entry ∙ c.in_default.is) c.in_ok-entry.ensures.gone
