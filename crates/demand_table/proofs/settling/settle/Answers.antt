use Rattle.std.proofs.Common.{ℕ, ◌-◌, ◌≡◌, ◌∙◌, ◌⊎◌, inl, inr, refl, sym, ap, subst, List, [], ◌∷◌, ◌++◌, Contains, length, arith}
use Rattle.std.specs.Prelude.{IsSome}
use Rattle.std.proofs.lemmas.List.{length_push}
use Rattle.std.proofs.lemmas.List.Elements.{Contains-append_left, Contains-push, Contains-push_cases}
use Rattle.loda_semantics.specs.declared.kinds.Pair.{Pair}
use Rattle.demand_table.specs.declared.frame.Frame.{Frame}
use Rattle.demand_table.specs.Loaded.{slots_of}
use Rattle.demand_table.specs.Work.{Slots}
use Rattle.demand_table.specs.Settling.{IsUnsettled, IsStacked, pairs_of}
use Rattle.demand_table.proofs.Totals.{pairs_push, stack_few, settled_top, set_settles, set_known, waited, settles_then}
use Rattle.demand_table.proofs.settling.settle.Goals as goal

with_top : (w : Slots) (items stack : List Frame) (f : Frame) (left : ℕ) → items ≡ stack ++ f ∷ [] → IsStacked w items left → IsStacked w (stack ++ f ∷ []) left
with_top w items stack f left e h = subst (λ (l : List Frame). IsStacked w l left) e h

top_open : (w : Slots) (stack : List Frame) (f : Frame) (left : ℕ) → IsStacked w (stack ++ f ∷ []) left → IsUnsettled w f.pair
top_open w stack f left h = h.unsettled f.pair (subst (λ (l : List Pair). Contains l f.pair) (sym (pairs_push stack f)) (Contains-push (pairs_of stack) f.pair))

pub step-requires-clause-unsettled : goal.step-requires-clause-unsettled
step-requires-clause-unsettled c =
    let w = slots_of c.args.known.now.pages.now c.loop-frame.work in
    top_open w c.pop.new.self.items c.in-Some.frame c.loop-frame.left (with_top w c.loop-frame.stack.items c.pop.new.self.items c.in-Some.frame c.loop-frame.left c.in-Some.ensures.items c.loop-frame.invariant.stacked)

pub set_total-requires : goal.set_total-requires
set_total-requires c =
    let w = slots_of c.args.known.now.pages.now c.loop-frame.work in
    top_open w c.pop.new.self.items c.in-Some.frame c.loop-frame.left (with_top w c.loop-frame.stack.items c.pop.new.self.items c.in-Some.frame c.loop-frame.left c.in-Some.ensures.items c.loop-frame.invariant.stacked)

pub overflow_sub-left : goal.overflow_sub-left
overflow_sub-left c =
    let few = stack_few (slots_of c.args.known.now.pages.now c.loop-frame.work) c.loop-frame.stack.items c.loop-frame.left c.loop-frame.invariant.stacked in
    let n = ap length c.in-Some.ensures.items ∙ length_push c.pop.new.self.items c.in-Some.frame in
    omega arith

pub loop-frame-smaller-in-Total : goal.loop-frame-smaller-in-Total
loop-frame-smaller-in-Total c =
    let few = stack_few (slots_of c.args.known.now.pages.now c.loop-frame.work) c.loop-frame.stack.items c.loop-frame.left c.loop-frame.invariant.stacked in
    let n = ap length c.in-Some.ensures.items ∙ length_push c.pop.new.self.items c.in-Some.frame in
    omega arith

pub loop-frame-preserved-in-Total : goal.loop-frame-preserved-in-Total
loop-frame-preserved-in-Total c =
    let w = slots_of c.args.known.now.pages.now c.loop-frame.work in
    let new = slots_of c.args.known.now.pages.now c.set_total.new.work in
    let f = c.in-Some.frame in
    let stack = c.pop.new.self.items in
    let left = c.loop-frame.left in
    let set = c.set_total.ensures in
    let h = with_top w c.loop-frame.stack.items stack f left c.in-Some.ensures.items c.loop-frame.invariant.stacked in
    let next = settled_top w new f.pair c.in-Total.total set stack f left refl h (c.in-Total.ensures h.settling.can) in
    let fewer : next.0 ≡ left - 1 = let e = next.1 in omega arith in
    let e = ap pairs_of c.in-Some.ensures.items ∙ pairs_push stack f in
    let settles = set_settles w new f.pair c.in-Total.total set in
    let known : IsSome (new f.pair).total = set_known w new f.pair c.in-Total.total set in
    let waits : Contains (pairs_of stack) c.args.pair.now ⊎ IsSome (new c.args.pair.now).total =
    elim c.loop-frame.invariant.waits [
      | inl at ↦ elim (Contains-push_cases (pairs_of stack) f.pair c.args.pair.now (subst (λ (l : List Pair). Contains l c.args.pair.now) e at)) [
        | inl at ↦ inl at
        | inr same ↦ inr (subst (λ (q : Pair). IsSome (new q).total) same known)
      ]
      | inr some ↦ inr (settles.known c.args.pair.now some)
    ] in
    record {
      stacked = subst (λ (n : ℕ). IsStacked new stack n) fewer next.2;
      settles = settles_then (slots_of c.args.known.now.pages.now c.args.work.now) w new c.loop-frame.invariant.settles settles;
      waits = waits;
    }

pub loop-frame-preserved : goal.loop-frame-preserved
loop-frame-preserved c =
    let w = slots_of c.args.known.now.pages.now c.loop-frame.work in
    let f = c.in-Some.frame in
    let g : Frame = record { pair = f.pair; from = c.in-Waits.at } in
    let next : Frame = record { pair = c.in-Waits.call; from = 0 } in
    let stack = c.pop.new.self.items in
    let now = c.push-in-Waits-2.new.self.items in
    let left = c.loop-frame.left in
    let h = with_top w c.loop-frame.stack.items stack f left c.in-Some.ensures.items c.loop-frame.invariant.stacked in
    let is : now ≡ (stack ++ g ∷ []) ++ next ∷ [] = c.in_ok-push-in-Waits-2.ensures.items ∙ ap (λ (l : List Frame). l ++ next ∷ []) c.in_ok-push-in-Waits.ensures.items in
    let e = ap pairs_of c.in-Some.ensures.items ∙ pairs_push stack f in
    let e2 = ap pairs_of is ∙ pairs_push (stack ++ g ∷ []) next in
    let same : pairs_of (stack ++ g ∷ []) ≡ pairs_of c.loop-frame.stack.items = pairs_push stack g ∙ sym e in
    let waits : Contains (pairs_of now) c.args.pair.now ⊎ IsSome (w c.args.pair.now).total =
    elim c.loop-frame.invariant.waits [
      | inl at ↦ inl (subst (λ (l : List Pair). Contains l c.args.pair.now) (sym e2)
          (Contains-append_left (pairs_of (stack ++ g ∷ [])) (next.pair ∷ []) c.args.pair.now (subst (λ (l : List Pair). Contains l c.args.pair.now) (sym same) at)))
      | inr some ↦ inr some
    ] in
    record {
      stacked = subst (λ (l : List Frame). IsStacked w l left) (sym is) (waited w stack f g next left h refl c.in-Waits.ensures.0 c.in-Waits.ensures.1);
      settles = c.loop-frame.invariant.settles;
      waits = waits;
    }

pub loop-frame-smaller : goal.loop-frame-smaller
loop-frame-smaller c =
    let w = slots_of c.args.known.now.pages.now c.loop-frame.work in
    let f = c.in-Some.frame in
    let g : Frame = record { pair = f.pair; from = c.in-Waits.at } in
    let next : Frame = record { pair = c.in-Waits.call; from = 0 } in
    let stack = c.pop.new.self.items in
    let left = c.loop-frame.left in
    let h = with_top w c.loop-frame.stack.items stack f left c.in-Some.ensures.items c.loop-frame.invariant.stacked in
    let few = stack_few w ((stack ++ g ∷ []) ++ next ∷ []) left (waited w stack f g next left h refl c.in-Waits.ensures.0 c.in-Waits.ensures.1) in
    let n = ap length c.in-Some.ensures.items ∙ length_push stack f in
    let m = length_push (stack ++ g ∷ []) next in
    let k = length_push stack g in
    let i = ap length c.in_ok-push-in-Waits-2.ensures.items ∙ length_push c.push-in-Waits.new.self.items next in
    let j = ap length c.in_ok-push-in-Waits.ensures.items ∙ length_push stack g in
    omega arith
