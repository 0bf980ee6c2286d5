use Rattle.std.proofs.Common.{◌≡◌, refl, sym, subst, ℤ}
use Rattle.std.specs.Prelude.{IsSome}
use Rattle.std.specs.Ordering.{nat_cmp, int_cmp}
use Rattle.std.specs.BTreeMap as tree
use Rattle.std.specs.BTreeMap.{BTreeMap}
use Rattle.std.specs.declared.option.Option.{Option}
use Rattle.std.specs.declared.option.Option.TheVariants.{Some}
use Rattle.demand_table.specs.declared.slot.Slot.{Slot}
use Rattle.demand_table.proofs.Loaded.{slot_others}
use Rattle.demand_table.proofs.slots.take_touched.Goals as goal

pub returns-in-Some-get_mut-clause-others : goal.returns-in-Some-get_mut-clause-others
returns-in-Some-get_mut-clause-others c = λ q other.
    let old = c.args.work.now.touched in
    let was = c.in-Some.slots.now in
    let now = c.get_mut-in-Some.follows.lender c.replace.new.dest in
    let p = c.args.pair.now in
    let there : tree.get nat_cmp old p.name ≡ Some was = sym c.in-Some.ensures.value in
    let has : tree.get int_cmp was p.arg ≡ Some c.in-Some-get_mut.slot.now = sym c.in-Some-get_mut.ensures.value in
    let some : IsSome (tree.get nat_cmp old p.name) = subst (λ (o : Option (BTreeMap ℤ Slot)). IsSome o) (sym there) refl in
    let one : IsSome (tree.get int_cmp was p.arg) = subst (λ (o : Option Slot). IsSome o) (sym has) refl in
    slot_others old (c.get_mut.follows.lender now) p was now (Some c.replace.new.dest) there ((c.get_mut.follows.holds now).3 some)
    ((c.get_mut-in-Some.follows.holds c.replace.new.dest).3 one) q other
