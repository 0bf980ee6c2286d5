use Rattle.std.proofs.Common.{ℕ, inl, inr, ◌+◌, ◌<◌, ◌≡◌, ◌∙◌, refl, sym, ap, subst, List, [], ◌∷◌, Contains, length, drop, get_or, true, false}
use Rattle.std.specs.Prelude.{IsSome}
use Rattle.std.specs.Option.{is_some}
use Rattle.std.specs.declared.option.Option.{Option}
use Rattle.std.specs.declared.option.Option.TheVariants.{Some, None}
use Rattle.std.specs.Global.{Vec}
use Rattle.demand_table.specs.declared.frame.Frame.{Frame}
use Rattle.std.proofs.lemmas.List.{drop_more, drop_all}
use Rattle.loda_semantics.specs.declared.kinds.Pair.{Pair}
use Rattle.demand_table.specs.declared.entry.Entry.{Entry}
use Rattle.demand_table.specs.declared.work.Work.{Work}
use Rattle.demand_table.specs.Loaded.{slots_of}
use Rattle.demand_table.specs.Work.{Slots}
use Rattle.demand_table.specs.Settling.{IsUnsettled, IsSettling, Settles}
use Rattle.demand_table.proofs.Counts.{nil-cases, cons-cases}
use Rattle.demand_table.proofs.Counted.{none_is_some}
use Rattle.demand_table.proofs.Totals.{settles_then}
use Rattle.demand_table.proofs.settling.settle_all.Goals as goal
use Rattle.demand_table.proofs.settling.settle_all.Goals.{then-is_none+in_ok-left, else-is_none}

none_from : (o : Option ℕ) → is_some o ≡ false → o ≡ None
none_from None e = refl
none_from (Some x) e = cc

some_from : (o : Option ℕ) → is_some o ≡ true → IsSome o
some_from None e = cc
some_from (Some x) e = refl

-- the pairs from a place on, but for the one there, whose total is known
past : (w : Slots) (pairs : List Pair) (i : ℕ) (p : Pair) → i < length pairs → p ≡ get_or pairs i p → IsSome (w p).total → (q : Pair) → IsUnsettled w q → Contains (drop i pairs) q → Contains (drop (i + 1) pairs) q
past w pairs i p lt is known q open' at =
    let e : drop i pairs ≡ p ∷ drop (i + 1) pairs = drop_more pairs i p lt ∙ ap (λ (x : Pair). x ∷ drop (i + 1) pairs) (sym is) in
    elim (cons-cases p (drop (i + 1) pairs) q (subst (λ (l : List Pair). Contains l q) e at)) [
      | inl same ↦ absurd (none_is_some (w q).total open'.unknown (subst (λ (r : Pair). IsSome (w r).total) same known))
      | inr at ↦ at
    ]

pub settle-requires-clause-settling : goal.settle-requires-clause-settling
settle-requires-clause-settling c = c.loop-pair.invariant.settling

pub settle-requires-clause-unsettled : goal.settle-requires-clause-unsettled
settle-requires-clause-unsettled c =
    let p = c.pair-item.result in
    let at : Contains c.args.pairs.now p = (c.loop-pair.pair-index, c.loop-pair-test.true, sym c.pair-item.is) in
    record {
      stands = subst (λ (o : Option Entry). IsSome o) (sym (c.loop-pair.invariant.settles.entry p)) (c.requires.stand p at);
      unknown = sym c.total.ensures ∙ none_from c.total.result c.if-is_none.ensures;
    }

was_open : (old new : Slots) (q : Pair) → Settles old new → IsUnsettled new q → IsUnsettled old q
was_open old new q h k = record {
  stands = subst (λ (o : Option Entry). IsSome o) (h.entry q) k.stands;
  unknown = by (old q).total refl;
}
  where
    by : (o : Option ℕ) → (old q).total ≡ o → (old q).total ≡ None
    by None e = e
    by (Some t) e = absurd (none_is_some (new q).total k.unknown (h.known q (subst (λ (o : Option ℕ). IsSome o) (sym e) refl)))

pub loop-pair-preserved : goal.loop-pair-preserved
loop-pair-preserved c =
    let old = slots_of c.args.known.now.pages.now c.args.work.now in
    let w = slots_of c.args.known.now.pages.now c.loop-pair.work in
    let p = c.pair-item.result in
    let i = c.loop-pair.pair-index in
    let pairs = c.args.pairs.now in
    let h = c.loop-pair.invariant in
    elim c.if-is_none.branch [
      | then-is_none+in_ok-left w1 ↦
          let new = slots_of c.args.known.now.pages.now w1.settle.new.work in
          let e = w1.in_ok-left.ensures in
          let all : IsSettling new w1.in_ok-left.left × Settles old new × ((q : Pair) → IsUnsettled new q → Contains (drop (i + 1) pairs) q) = (
            e.left,
            settles_then old w new h.settles e.settles,
            λ q k. past new pairs i p c.loop-pair-test.true c.pair-item.is e.here q k (h.rest q (was_open w new q e.settles k)),
          ) in
          let moved = subst (λ (k : Work). IsSettling (slots_of c.args.known.now.pages.now k) c.if-is_none.left × Settles old (slots_of c.args.known.now.pages.now k) × ((q : Pair) → IsUnsettled (slots_of c.args.known.now.pages.now k) q → Contains (drop (i + 1) pairs) q)) (sym w1.work-is)
          (subst (λ (n : ℕ). IsSettling new n × Settles old new × ((q : Pair) → IsUnsettled new q → Contains (drop (i + 1) pairs) q)) (sym w1.left-is) all) in
          record { empty = ap (λ (v : Vec Frame). v.items) w1.stack-is ∙ w1.in_ok-left.ensures.empty; settling = moved.0; settles = moved.1; rest = moved.2 }
      | else-is_none w1 ↦
          let known : IsSome (w p).total = subst (λ (o : Option ℕ). IsSome o) c.total.ensures (some_from c.total.result w1.if-is_none.ensures) in
          let all : IsSettling w c.loop-pair.left × Settles old w × ((q : Pair) → IsUnsettled w q → Contains (drop (i + 1) pairs) q) =
          (h.settling, h.settles, λ q k. past w pairs i p c.loop-pair-test.true c.pair-item.is known q k (h.rest q k)) in
          let moved = subst (λ (k : Work). IsSettling (slots_of c.args.known.now.pages.now k) c.if-is_none.left × Settles old (slots_of c.args.known.now.pages.now k) × ((q : Pair) → IsUnsettled (slots_of c.args.known.now.pages.now k) q → Contains (drop (i + 1) pairs) q)) (sym w1.work-is)
          (subst (λ (n : ℕ). IsSettling w n × Settles old w × ((q : Pair) → IsUnsettled w q → Contains (drop (i + 1) pairs) q)) (sym w1.left-is) all) in
          record { empty = ap (λ (v : Vec Frame). v.items) w1.stack-is ∙ h.empty; settling = moved.0; settles = moved.1; rest = moved.2 }
    ]

pub returns : goal.returns
returns c = record {
  settles = c.loop-pair.invariant.settles;
  can = c.loop-pair.invariant.settling.can;
  known = λ q k.
      let e : drop c.loop-pair.pair-index c.args.pairs.now ≡ [] = drop_all c.loop-pair.pair-index c.args.pairs.now c.loop-pair-test.false in
      nil-cases q (subst (λ (l : List Pair). Contains l q) e (c.loop-pair.invariant.rest q k));
}
