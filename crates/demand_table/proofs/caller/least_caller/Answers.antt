use Rattle.std.proofs.Common.{ℕ, refl, sym, subst}
use Rattle.std.specs.Prelude.{IfNone}
use Rattle.std.specs.declared.option.Option.{Option}
use Rattle.std.specs.declared.option.Option.TheVariants.{Some, None}
use Rattle.loda_semantics.specs.declared.kinds.Pair.{Pair}
use Rattle.program_store.specs.Store.{checked_at}
use Rattle.seq_calls.specs.Frames.{pair}
use Rattle.demand_table.specs.Leading.{AreBarren, IsFirstLeading}
use Rattle.demand_table.specs.Loaded.{node_at}
use Rattle.demand_table.proofs.Pairs.{same_parts}
use Rattle.demand_table.proofs.Demanders.{none_more, is_least, none_at_all}
use Rattle.demand_table.proofs.caller.least_caller.Goals as goal

pub returns-in-Some-2-clause-some : goal.returns-in-Some-2-clause-some
returns-in-Some-2-clause-some c =
    let s = c.args.programs.now in
    let D = node_at c.args.known.now.pages.now in
    let to = c.args.to.now in
    let name = c.in-Some.name in
    let next = c.in-Some.ensures.found in
    let index = c.in-Some-2.index in
    let told = subst (λ (o : Option ℕ). IsFirstLeading D name c.checked_count-checked.result to o) c.in-Some-2.is c.in_ok-index.ensures.first in
    let first = subst (λ (p : Pair). IsFirstLeading D name (checked_at s name) p (Some index)) (sym (same_parts (pair to.name to.arg) to refl refl)) (subst (λ (n : ℕ). IsFirstLeading D name n to (Some index)) c.checked_count-checked.ensures told) in
    is_least s D c.requires.table to.name to.arg c.loop-name.last name next.above next.least c.loop-name.invariant.below index first

pub loop-name-preserved : goal.loop-name-preserved
loop-name-preserved c =
    let s = c.args.programs.now in
    let D = node_at c.args.known.now.pages.now in
    let to = c.args.to.now in
    let name = c.in-Some.name in
    let next = c.in-Some.ensures.found in
    let told = subst (λ (o : Option ℕ). IsFirstLeading D name c.checked_count-checked.result to o) c.in_default-2.is c.in_ok-index.ensures.first in
    let first = subst (λ (p : Pair). IsFirstLeading D name (checked_at s name) p None) (sym (same_parts (pair to.name to.arg) to refl refl)) (subst (λ (n : ℕ). IsFirstLeading D name n to None) c.checked_count-checked.ensures told) in
    record {
      within = next.name.1;
      below = none_more s D c.requires.table to.name to.arg c.loop-name.last name next.above next.least c.loop-name.invariant.below first;
      met = c.in_ok-index.ensures.met;
      barren = subst (λ (o : Option ℕ). IfNone o (AreBarren D to c.first_leading.new.pairs.items)) c.in_default-2.is c.in_ok-index.ensures.barren;
    }

pub returns-clause-none : goal.returns-clause-none
returns-clause-none c =
    none_at_all c.args.programs.now (node_at c.args.known.now.pages.now) c.requires.table c.args.to.now.name c.args.to.now.arg c.loop-name.last c.loop-name.invariant.below c.in_default.ensures.none
