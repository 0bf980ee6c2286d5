use Rattle.std.proofs.Common.{◌≡◌, ◌∙◌, refl, sym, subst, ap, ℤ}
use Rattle.std.specs.Prelude.{IsSome}
use Rattle.std.specs.Ordering.{nat_cmp, int_cmp}
use Rattle.std.specs.Option.{option_and_then}
use Rattle.std.specs.BTreeMap as tree
use Rattle.std.specs.BTreeMap.{BTreeMap}
use Rattle.std.specs.declared.option.Option.{Option}
use Rattle.std.specs.declared.option.Option.TheVariants.{Some}
use Rattle.demand_table.specs.declared.slot.Slot.{Slot}
use Rattle.demand_table.specs.declared.work.Work.{Work}
use Rattle.demand_table.specs.Loaded.{slot_or, slots_of, node_at, touched_in}
use Rattle.demand_table.specs.Work.{IsSet, with_total}
use Rattle.demand_table.proofs.Loaded.{slot_here, slot_others, slots_set}
use Rattle.demand_table.proofs.settling.set_total.Goals as goal

pub returns : goal.returns
returns c =
    let folders = c.args.known.now.pages.now in
    let work = c.args.work.now in
    let old = work.touched in
    let p = c.args.pair.now in
    let was = c.in-Some.slots.now in
    let slot = c.in-Some-get_mut.slot.now in
    let made = with_total slot c.args.total in
    let now = c.get_mut-in-Some.follows.lender made in
    let all = c.get_mut.follows.lender now in
    let next : Work = record { touched = all } in
    let there : tree.get nat_cmp old p.name ≡ Some was = sym c.in-Some.ensures.value in
    let has : tree.get int_cmp was p.arg ≡ Some slot = sym c.in-Some-get_mut.ensures.value in
    let some : IsSome (tree.get nat_cmp old p.name) = subst (λ (o : Option (BTreeMap ℤ Slot)). IsSome o) (sym there) refl in
    let one : IsSome (tree.get int_cmp was p.arg) = subst (λ (o : Option Slot). IsSome o) (sym has) refl in
    let outer = (c.get_mut.follows.holds now).3 some in
    let inner = (c.get_mut-in-Some.follows.holds made).3 one in
    let touched : touched_in work p ≡ Some slot = ap (option_and_then (λ (slots : BTreeMap ℤ Slot). tree.get int_cmp slots p.arg)) there ∙ has in
    let is : slots_of folders work p ≡ slot = ap (λ (o : Option Slot). slot_or o (node_at folders p)) touched in
    subst (λ (s : Slot). IsSet (slots_of folders work) (slots_of folders next) p (with_total s c.args.total)) (sym is)
    (slots_set work next folders p (slot_others old all p was now (Some made) there outer inner) made (slot_here old all p was now (Some made) there outer inner))
