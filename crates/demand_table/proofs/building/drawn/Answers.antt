use Rattle.std.proofs.Math.Facts.{Fits-lt-pow}
use Rattle.std.proofs.Common.{◌<◌, ◌^◌, sym, ap, subst, List, Contains}
use Rattle.loda_semantics.specs.declared.kinds.Pair.{Pair}
use Rattle.demand_table.specs.Gathered.{IsUndrawn}
use Rattle.demand_table.specs.Loaded.{Folders, slots_of}
use Rattle.demand_table.specs.Mending.{IsForgetting}
use Rattle.demand_table.proofs.Gathers.{checked_values}
use Rattle.demand_table.proofs.Built.{can, tabled_next, held_next}
use Rattle.demand_table.proofs.building.drawn.Goals as goal

pub gather-requires-clause-undrawn : goal.gather-requires-clause-undrawn
gather-requires-clause-undrawn c = subst (λ (f : Folders). IsUndrawn c.args.store.now f) (sym c.of-known.ensures) c.requires.undrawn

pub settle_all-requires-clause-settling : goal.settle_all-requires-clause-settling
settle_all-requires-clause-settling c =
    let s = c.args.store.now in
    let fits : c.args.limit < 2 ^ 64 = Fits-lt-pow c.ranges.limit in
    let g = c.in_ok-gathered.gathered in
    let w = slots_of c.of-known.result.pages.now g.work in
    let w4 = slots_of c.of-known.result.pages.now c.forget_all.new.work in
    let listed = c.forget_all.new.unsettled.items in
    let many = c.in_ok-waiting.waiting in
    let forgot = subst (λ (l : List Pair). IsForgetting w w4 l listed many) c.deref.ensures.value c.in_ok-waiting.ensures in
    record {
      can = can s (checked_values s c.args.limit fits c.requires.values) w w4 g.callers g.pairs.items listed g.stand many c.in_ok-gathered.ensures.gathered c.in_ok-gathered.ensures.all forgot;
      many = forgot.count;
    }

pub settle_all-requires-clause-stand : goal.settle_all-requires-clause-stand
settle_all-requires-clause-stand c = λ q at. c.in_ok-waiting.ensures.stand q (subst (λ (l : List Pair). Contains l q) c.deref-2.ensures.value at)

pub returns-clause-tabled : goal.returns-clause-tabled
returns-clause-tabled c =
    let s = c.args.store.now in
    let fits : c.args.limit < 2 ^ 64 = Fits-lt-pow c.ranges.limit in
    let g = c.in_ok-gathered.gathered in
    let w = slots_of c.of-known.result.pages.now g.work in
    let w4 = slots_of c.of-known.result.pages.now c.forget_all.new.work in
    let w5 = slots_of c.of-known.result.pages.now c.settle_all.new.work in
    let listed = c.forget_all.new.unsettled.items in
    let many = c.in_ok-waiting.waiting in
    let forgot = subst (λ (l : List Pair). IsForgetting w w4 l listed many) c.deref.ensures.value c.in_ok-waiting.ensures in
    let settled = c.in_ok-settle_all.ensures in
    tabled_next s (checked_values s c.args.limit fits c.requires.values) w w4 g.callers g.pairs.items listed g.stand many c.in_ok-gathered.ensures.gathered c.in_ok-gathered.ensures.all forgot
    w5 settled.settles settled.can settled.known c.requires.kept c.args.folders.now c.in_ok-next.next c.settle_all.new.work c.requires.undrawn
    (ap (λ (f : Folders). slots_of f c.settle_all.new.work) (sym c.of-known.ensures)) c.in_ok-next.ensures

pub returns-clause-held : goal.returns-clause-held
returns-clause-held c =
    let s = c.args.store.now in
    let fits : c.args.limit < 2 ^ 64 = Fits-lt-pow c.ranges.limit in
    let g = c.in_ok-gathered.gathered in
    let w = slots_of c.of-known.result.pages.now g.work in
    let w4 = slots_of c.of-known.result.pages.now c.forget_all.new.work in
    let w5 = slots_of c.of-known.result.pages.now c.settle_all.new.work in
    let listed = c.forget_all.new.unsettled.items in
    let many = c.in_ok-waiting.waiting in
    let forgot = subst (λ (l : List Pair). IsForgetting w w4 l listed many) c.deref.ensures.value c.in_ok-waiting.ensures in
    let settled = c.in_ok-settle_all.ensures in
    held_next s (checked_values s c.args.limit fits c.requires.values) w w4 g.callers g.pairs.items listed g.stand many c.in_ok-gathered.ensures.gathered c.in_ok-gathered.ensures.all forgot
    w5 settled.settles settled.can settled.known c.requires.kept c.args.folders.now c.in_ok-next.next c.settle_all.new.work c.requires.undrawn
    (ap (λ (f : Folders). slots_of f c.settle_all.new.work) (sym c.of-known.ensures)) c.in_ok-next.ensures
