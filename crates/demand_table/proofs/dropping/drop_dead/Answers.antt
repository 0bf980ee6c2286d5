use Rattle.std.proofs.Common.{ℕ, take, ◌≡◌, ◌-◌, ◌∙◌, sym, ap, subst, List, [], ◌∷◌, ◌++◌, Contains, arith}
use Rattle.std.specs.Prelude.{IsSome}
use Rattle.std.specs.declared.option.Option.TheVariants.{None, Some}
use Rattle.loda_semantics.specs.declared.kinds.Pair.{Pair}
use Rattle.demand_table.specs.declared.slot.Slot.{Slot}
use Rattle.demand_table.specs.Loaded.{slots_of, checks_in}
use Rattle.demand_table.specs.Drawn.{CheckedRanges, Runs, RunCalls}
use Rattle.demand_table.specs.Work.{Slots, runs_in, IsDropping}
use Rattle.demand_table.proofs.Counts.{count_some}
use Rattle.demand_table.proofs.Counted.{is_some, none_is_some}
use Rattle.demand_table.proofs.Dead.{none_pending, passed_over, dropped, called_some, dropping_copied, emptied, set_callers, taken_from, keeps_copied, keeps_set, keeps_lowered}
use Rattle.demand_table.proofs.dropping.drop_dead.Goals as goal

at_end : (C : CheckedRanges) (R : Runs) (w : Slots) (was pending : List Pair) (p : Pair) (left : ℕ) → was ≡ pending ++ p ∷ [] → IsDropping C R w was left → IsDropping C R w (pending ++ p ∷ []) left
at_end C R w was pending p left e h = subst (λ (l : List Pair). IsDropping C R w l left) e h

pub loop-pair-preserved-then-is_checked : goal.loop-pair-preserved-then-is_checked
loop-pair-preserved-then-is_checked c =
    let C = checks_in c.args.checking.now in
    let R = runs_in (slots_of c.args.known.now.pages.now c.args.work.now) in
    let w = slots_of c.args.known.now.pages.now c.loop-pair.work in
    record {
      dropping = passed_over C R w c.pop.new.self.items c.in-Some.pair c.loop-pair.left (at_end C R w c.loop-pair.pending.items c.pop.new.self.items c.in-Some.pair c.loop-pair.left c.in-Some.ensures.items c.loop-pair.invariant.dropping)
          (λ some none. c.is_checked.ensures.0 c.if-is_checked.true);
      totals = c.loop-pair.invariant.totals;
    }

pub loop-pair-preserved-then-branch-gt0 : goal.loop-pair-preserved-then-branch-gt0
loop-pair-preserved-then-branch-gt0 c =
    let C = checks_in c.args.checking.now in
    let R = runs_in (slots_of c.args.known.now.pages.now c.args.work.now) in
    let w = slots_of c.args.known.now.pages.now c.loop-pair.work in
    let p = c.in-Some.pair in
    record {
      dropping = dropping_copied C R w (slots_of c.args.known.now.pages.now c.callers.new.work) c.pop.new.self.items c.loop-pair.left c.in_ok-callers.ensures.same
          (passed_over C R w c.pop.new.self.items p c.loop-pair.left (at_end C R w c.loop-pair.pending.items c.pop.new.self.items p c.loop-pair.left c.in-Some.ensures.items c.loop-pair.invariant.dropping)
          (λ some none. let e = c.in_ok-callers.ensures.callers in let f = c.if-branch-gt0.true in absurd (omega arith)));
      totals = keeps_copied (slots_of c.args.known.now.pages.now c.args.work.now) (slots_of c.args.known.now.pages.now c.loop-pair.work) (slots_of c.args.known.now.pages.now c.callers.new.work) c.in_ok-callers.ensures.same c.loop-pair.invariant.totals;
    }

pub overflow_sub-left : goal.overflow_sub-left
overflow_sub-left c =
    let C = checks_in c.args.checking.now in
    let R = runs_in (slots_of c.args.known.now.pages.now c.args.work.now) in
    let w = slots_of c.args.known.now.pages.now c.callers.new.work in
    let p = c.in-Some.pair in
    let h = dropping_copied C R (slots_of c.args.known.now.pages.now c.loop-pair.work) w c.loop-pair.pending.items c.loop-pair.left c.in_ok-callers.ensures.same c.loop-pair.invariant.dropping in
    let entry : (w p).entry ≡ Some c.in-Some-2.entry = sym c.in_ok-entry.ensures.entry ∙ c.in-Some-2.is in
    let lt = count_some (λ (q : Pair). IsSome (w q).entry) c.loop-pair.left p h.many (is_some (w p).entry c.in-Some-2.entry entry) in
    omega arith

pub lower_all-requires : goal.lower_all-requires
lower_all-requires c = λ q at.
    let C = checks_in c.args.checking.now in
    let R = runs_in (slots_of c.args.known.now.pages.now c.args.work.now) in
    let w = slots_of c.args.known.now.pages.now c.callers.new.work in
    let p = c.in-Some.pair in
    let h = dropping_copied C R (slots_of c.args.known.now.pages.now c.loop-pair.work) w c.loop-pair.pending.items c.loop-pair.left c.in_ok-callers.ensures.same c.loop-pair.invariant.dropping in
    let entry : (w p).entry ≡ Some c.in-Some-2.entry = sym c.in_ok-entry.ensures.entry ∙ c.in-Some-2.is in
    let call : RunCalls (runs_in w) p q = (c.in-Some-2.entry, entry, subst (λ (l : List Pair). Contains l q) c.list.ensures at) in
    let some = called_some w p q h.counted call in
    let same = set_callers w (slots_of c.args.known.now.pages.now c.take.new.work) p q c.in_ok-entry.ensures.gone in
    omega arith

pub loop-pair-preserved-in-Some-2 : goal.loop-pair-preserved-in-Some-2
loop-pair-preserved-in-Some-2 c =
    let C = checks_in c.args.checking.now in
    let R = runs_in (slots_of c.args.known.now.pages.now c.args.work.now) in
    let first = slots_of c.args.known.now.pages.now c.loop-pair.work in
    let w = slots_of c.args.known.now.pages.now c.callers.new.work in
    let mid = slots_of c.args.known.now.pages.now c.take.new.work in
    let new = slots_of c.args.known.now.pages.now c.lower_all.new.work in
    let p = c.in-Some.pair in
    let e = c.in-Some-2.entry in
    let pending = c.pop.new.self.items in
    let now = c.lower_all.new.pending.items in
    let left = c.loop-pair.left in
    let h = dropping_copied C R first w (pending ++ p ∷ []) left c.in_ok-callers.ensures.same (at_end C R first c.loop-pair.pending.items pending p left c.in-Some.ensures.items c.loop-pair.invariant.dropping) in
    let entry : (w p).entry ≡ Some e = sym c.in_ok-entry.ensures.entry ∙ c.in-Some-2.is in
    let low = c.in_ok-lower_all.ensures in
    let taken = taken_from w mid new p e c.list.result.now pending now entry c.in_ok-entry.ensures.gone c.list.ensures low in
    let same = c.in_ok-callers.ensures.same p in
    let few = c.in_ok-callers.ensures.callers in
    let none : (first p).callers ≡ 0 = let f = c.if-branch-gt0.false in omega arith in
    let less = dropped C R w new pending now p e left h taken (ap (λ (s : Slot). s.callers) same ∙ none)
    (λ checked. let yes = c.is_checked.ensures.1 checked in let no = c.if-is_checked.false in cc)
    low.keeps (λ q at uncalled. low.adds q (subst (λ (l : List Pair). Contains l q) (sym c.list.ensures) at) uncalled) in
    let many : less.0 ≡ left - 1 = let f = less.1 in omega arith in
    record {
      dropping = subst (λ (n : ℕ). IsDropping C R new now n) many less.2;
      totals = keeps_lowered (slots_of c.args.known.now.pages.now c.args.work.now) (slots_of c.args.known.now.pages.now c.take.new.work) (slots_of c.args.known.now.pages.now c.lower_all.new.work) c.list.result.now c.pop.new.self.items c.lower_all.new.pending.items c.in_ok-lower_all.ensures (keeps_set (slots_of c.args.known.now.pages.now c.args.work.now) (slots_of c.args.known.now.pages.now c.callers.new.work) (slots_of c.args.known.now.pages.now c.take.new.work) c.in-Some.pair c.in_ok-entry.ensures.gone (keeps_copied (slots_of c.args.known.now.pages.now c.args.work.now) (slots_of c.args.known.now.pages.now c.loop-pair.work) (slots_of c.args.known.now.pages.now c.callers.new.work) c.in_ok-callers.ensures.same c.loop-pair.invariant.totals));
    }

pub loop-pair-preserved : goal.loop-pair-preserved
loop-pair-preserved c =
    let C = checks_in c.args.checking.now in
    let R = runs_in (slots_of c.args.known.now.pages.now c.args.work.now) in
    let first = slots_of c.args.known.now.pages.now c.loop-pair.work in
    let w = slots_of c.args.known.now.pages.now c.callers.new.work in
    let p = c.in-Some.pair in
    let pending = c.pop.new.self.items in
    let left = c.loop-pair.left in
    let h = dropping_copied C R first w (pending ++ p ∷ []) left c.in_ok-callers.ensures.same (at_end C R first c.loop-pair.pending.items pending p left c.in-Some.ensures.items c.loop-pair.invariant.dropping) in
    let none : (w p).entry ≡ None = sym c.in_ok-entry.ensures.entry ∙ c.in_default-2.is in
    record {
      dropping = emptied C R w (slots_of c.args.known.now.pages.now c.take.new.work) pending left p c.in_ok-entry.ensures.gone none (passed_over C R w pending p left h (λ some uncalled. absurd (none_is_some (w p).entry none some)));
      totals = keeps_set (slots_of c.args.known.now.pages.now c.args.work.now) (slots_of c.args.known.now.pages.now c.callers.new.work) (slots_of c.args.known.now.pages.now c.take.new.work) c.in-Some.pair c.in_ok-entry.ensures.gone (keeps_copied (slots_of c.args.known.now.pages.now c.args.work.now) (slots_of c.args.known.now.pages.now c.loop-pair.work) (slots_of c.args.known.now.pages.now c.callers.new.work) c.in_ok-callers.ensures.same c.loop-pair.invariant.totals);
    }

pub returns-clause-dropped : goal.returns-clause-dropped
returns-clause-dropped c =
    let C = checks_in c.args.checking.now in
    let R = runs_in (slots_of c.args.known.now.pages.now c.args.work.now) in
    let w = slots_of c.args.known.now.pages.now c.loop-pair.work in
    let items = c.loop-pair.pending.items in
    let empty : items ≡ [] = c.in_default.ensures.items ∙ ap (λ (l : List Pair). l ++ []) (c.in_default.ensures.rest ∙ ap (λ (n : ℕ). take (n - 1) items) c.in_default.ensures.cases.0) in
    none_pending C R w c.loop-pair.left c.requires.no_cycle (subst (λ (l : List Pair). IsDropping C R w l c.loop-pair.left) empty c.loop-pair.invariant.dropping)
