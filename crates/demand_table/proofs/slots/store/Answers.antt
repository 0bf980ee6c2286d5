use Rattle.std.proofs.Common.{◌≡◌, refl, sym, subst, ℤ}
use Rattle.std.specs.Prelude.{IsSome}
use Rattle.std.specs.Ordering.{nat_cmp}
use Rattle.std.specs.BTreeMap as tree
use Rattle.std.specs.BTreeMap.{BTreeMap}
use Rattle.std.specs.declared.option.Option.{Option}
use Rattle.std.specs.declared.option.Option.TheVariants.{Some}
use Rattle.demand_table.specs.declared.slot.Slot.{Slot}
use Rattle.demand_table.specs.declared.work.Work.{Work}
use Rattle.demand_table.proofs.Loaded.{slot_here, slot_others, slots_set}
use Rattle.demand_table.proofs.slots.store.Goals as goal

pub returns-in-Some : goal.returns-in-Some
returns-in-Some c =
    let old = c.args.work.now.touched in
    let was = c.in-Some.slots.now in
    let now = c.insert.new.self in
    let all = c.get_mut.follows.lender now in
    let p = c.args.pair.now in
    let there : tree.get nat_cmp old p.name ≡ Some was = sym c.in-Some.ensures.value in
    let some : IsSome (tree.get nat_cmp old p.name) = subst (λ (o : Option (BTreeMap ℤ Slot)). IsSome o) (sym there) refl in
    let outer = (c.get_mut.follows.holds now).3 some in
    let inner = c.in_ok-insert.ensures.updates in
    let next : Work = record { touched = all } in
    slots_set c.args.work.now next c.args.known.now.pages.now p (slot_others old all p was now (Some c.args.slot) there outer inner) c.args.slot
    (slot_here old all p was now (Some c.args.slot) there outer inner)
