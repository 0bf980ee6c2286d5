-- Totals are settled one after the other, down the calls.
use Rattle.std.proofs.Common.{ℕ, suc, ◌<◌, ◌≤◌, ◌≡◌, ◌⊎◌, inl, inr, refl, sym, ap, subst, ◌∙◌, List, [], ◌∷◌, ◌++◌, Contains, length, arith}
use Rattle.std.specs.Prelude.{IsSome}
use Rattle.std.specs.declared.option.Option.{Option}
use Rattle.std.specs.declared.option.Option.TheVariants.{Some}
use Rattle.std.proofs.lemmas.List.{map-append, length-map}
use Rattle.std.proofs.lemmas.List.Elements.{Contains-append_left, Contains-push, Contains-push_cases}
use Rattle.loda_semantics.specs.declared.kinds.Pair.{Pair}
use Rattle.demand_table.specs.declared.entry.Entry.{Entry}
use Rattle.demand_table.specs.declared.slot.Slot.{Slot}
use Rattle.demand_table.specs.declared.frame.Frame.{Frame}
use Rattle.demand_table.specs.Counts.{AllDiffer}
use Rattle.demand_table.specs.Drawn.{Runs, RunCalls, AreTotals}
use Rattle.demand_table.specs.Work.{Slots, runs_in, IsSet, with_total}
use Rattle.demand_table.specs.Settling.{IsUnsettled, CanSettle, Settles, IsSettling, Falls, pairs_of, IsStacked}
use Rattle.demand_table.proofs.Counts.{nil-cases, cons-cases, cons-here, cons-more, no_longer, count_less}
use Rattle.demand_table.proofs.Counted.{none_is_some, is_some}
use Rattle.demand_table.proofs.Pairs.{pair_cases}

-- ---- ranks that fall

module _ (rank : Pair → ℕ) where
  pub falls-differ : (ps : List Pair) → Falls rank ps → AllDiffer ps
  falls-differ [] h = tt
  falls-differ (p ∷ ps) h = (λ at. let lt = h.0 p at in omega arith, falls-differ ps h.1)

  pub falls-push : (ps : List Pair) (p : Pair) → Falls rank ps → ((q : Pair) → Contains ps q → rank p < rank q) → Falls rank (ps ++ p ∷ [])
  falls-push [] p h low = (λ q at. absurd (nil-cases q at), tt)
  falls-push (r ∷ rs) p h low = (
    λ q at. elim (Contains-push_cases rs p q at) [ inl at ↦ h.0 q at | inr e ↦ subst (λ (s : Pair). rank s < rank r) e (low r (cons-here r rs)) ],
    falls-push rs p h.1 (λ q at. low q (cons-more r rs q at)),
  )

  pub falls-front : (ps : List Pair) (p : Pair) → Falls rank (ps ++ p ∷ []) → Falls rank ps × ((q : Pair) → Contains ps q → rank p < rank q)
  falls-front [] p h = (tt, λ q at. absurd (nil-cases q at))
  falls-front (r ∷ rs) p h =
      let rest = falls-front rs p h.1 in (
        (λ q at. h.0 q (Contains-append_left rs (p ∷ []) q at), rest.0),
        λ q at. elim (cons-cases r rs q at) [ inl e ↦ subst (λ (s : Pair). rank p < rank s) e (h.0 p (Contains-push rs p)) | inr at ↦ rest.1 q at ],
      )

pub pairs_push : (stack : List Frame) (f : Frame) → pairs_of (stack ++ f ∷ []) ≡ pairs_of stack ++ f.pair ∷ []
pairs_push stack f = map-append (λ (f : Frame). f.pair) stack (f ∷ [])

-- no more pairs wait than are unsettled
pub stack_few : (w : Slots) (stack : List Frame) (left : ℕ) → IsStacked w stack left → length stack ≤ left
stack_few w stack left h =
    let many = h.settling.many in
    let le = no_longer (pairs_of stack) many.things (falls-differ h.settling.can.rank (pairs_of stack) h.falls) many.differ (λ p at. (many.exact p).0 (h.unsettled p at)) in
    let n = length-map stack (λ (f : Frame). f.pair) in
    let m = many.count in
    omega arith

-- ---- one total is written

module _ (w new : Slots) (p : Pair) (t : ℕ) (set : IsSet w new p (with_total (w p) t)) where
  field : {Y : Type 0} (f : Slot → Y) → ((s : Slot) → f (with_total s t) ≡ f s) → (q : Pair) → f (new q) ≡ f (w q)
  field {Y} f keeps q = by (pair_cases q p)
    where
      by : (q ≡ p) ⊎ (q ≡ p → ⊥) → f (new q) ≡ f (w q)
      by (inl e) = subst (λ (r : Pair). f (new r) ≡ f (w r)) (sym e) (ap f set.here ∙ keeps (w p))
      by (inr other) = ap f (set.others q other)

  entries : (q : Pair) → (new q).entry ≡ (w q).entry
  entries q = field (λ s. s.entry) (λ s. refl) q

  runs : runs_in new ≡ runs_in w
  runs = λ i q. entries q i

  total_here : (new p).total ≡ Some t
  total_here = ap (λ (s : Slot). s.total) set.here

  total_other : (q : Pair) → (q ≡ p → ⊥) → (new q).total ≡ (w q).total
  total_other q other = ap (λ (s : Slot). s.total) (set.others q other)

  pub set_known : IsSome (new p).total
  set_known = is_some (new p).total t total_here

  pub can_set : (can : CanSettle w) → t ≡ can.total p → CanSettle new
  can_set can is = record {
    total = can.total;
    rank = can.rank;
    sums = subst (λ (R : Runs). AreTotals R can.total) (sym runs) can.sums;
    fit = λ q here. can.fit q (subst (λ (o : Option Entry). IsSome o) (entries q) here);
    closed = λ from to call. subst (λ (o : Option Entry). IsSome o) (sym (entries to)) (can.closed from to (subst (λ (R : Runs). RunCalls R from to) runs call));
    falls = λ from to call. can.falls from to (subst (λ (R : Runs). RunCalls R from to) runs call);
    right = right;
  }
    where
      same : (o : Option ℕ) (u : ℕ) → o ≡ Some t → o ≡ Some u → u ≡ t
      same o u a b = let e : Some t ≡ Some u = sym a ∙ b in cc

      right : (q : Pair) (u : ℕ) → IsSome (new q).entry → (new q).total ≡ Some u → u ≡ can.total q
      right q u here e = by (pair_cases q p)
        where
          by : (q ≡ p) ⊎ (q ≡ p → ⊥) → u ≡ can.total q
          by (inl f) = subst (λ (r : Pair). u ≡ can.total r) (sym f) (same (new p).total u total_here (subst (λ (r : Pair). (new r).total ≡ Some u) f e) ∙ is)
          by (inr other) = can.right q u (subst (λ (o : Option Entry). IsSome o) (entries q) here) (sym (total_other q other) ∙ e)

  pub set_settles : Settles w new
  set_settles = record {
    entry = entries;
    callers = λ q. field (λ s. s.callers) (λ s. refl) q;
    known = known;
  }
    where
      known : (q : Pair) → IsSome (w q).total → IsSome (new q).total
      known q h = by (pair_cases q p)
        where
          by : (q ≡ p) ⊎ (q ≡ p → ⊥) → IsSome (new q).total
          by (inl e) = subst (λ (r : Pair). IsSome (new r).total) (sym e) set_known
          by (inr other) = subst (λ (o : Option ℕ). IsSome o) (sym (total_other q other)) h

  was_unsettled : (q : Pair) → IsUnsettled new q → IsUnsettled w q
  was_unsettled q h = by (pair_cases q p)
    where
      by : (q ≡ p) ⊎ (q ≡ p → ⊥) → IsUnsettled w q
      by (inl e) = absurd (none_is_some (new q).total h.unknown (subst (λ (r : Pair). IsSome (new r).total) (sym e) set_known))
      by (inr other) = record { stands = subst (λ (o : Option Entry). IsSome o) (entries q) h.stands; unknown = sym (total_other q other) ∙ h.unknown }

  still_unsettled : (q : Pair) → IsUnsettled w q → (q ≡ p → ⊥) → IsUnsettled new q
  still_unsettled q h other = record { stands = subst (λ (o : Option Entry). IsSome o) (sym (entries q)) h.stands; unknown = total_other q other ∙ h.unknown }

  pub settled_top : (stack : List Frame) (f : Frame) (left : ℕ) → f.pair ≡ p → (h : IsStacked w (stack ++ f ∷ []) left) → t ≡ h.settling.can.total p
      → (m : ℕ) × (left ≡ suc m) × IsStacked new stack m
  unfolding can_set
  settled_top stack f left top h is =
      let rank = h.settling.can.rank in
      let e : pairs_of (stack ++ f ∷ []) ≡ pairs_of stack ++ p ∷ [] = pairs_push stack f ∙ ap (λ (q : Pair). pairs_of stack ++ q ∷ []) top in
      let here : IsUnsettled w p = h.unsettled p (subst (λ (l : List Pair). Contains l p) (sym e) (Contains-push (pairs_of stack) p)) in
      let front = falls-front rank (pairs_of stack) p (subst (Falls rank) e h.falls) in
      let less = count_less (IsUnsettled w) (IsUnsettled new) left p here (λ k. none_is_some (new p).total k.unknown set_known) still_unsettled was_unsettled h.settling.many in (
        less.0,
        less.1,
        record {
          settling = record { can = can_set h.settling.can is; many = less.2 };
          unsettled = λ q at. still_unsettled q (h.unsettled q (subst (λ (l : List Pair). Contains l q) (sym e) (Contains-append_left (pairs_of stack) (p ∷ []) q at)))
              (λ same. let lt : rank p < rank p = front.1 p (subst (Contains (pairs_of stack)) same at) in omega arith);
          falls = front.0;
        },
      )

-- ---- a call is waited for

pub waited : (w : Slots) (stack : List Frame) (f g next : Frame) (left : ℕ) → (h : IsStacked w (stack ++ f ∷ []) left) → g.pair ≡ f.pair → RunCalls (runs_in w) f.pair next.pair → IsUnsettled w next.pair
    → IsStacked w ((stack ++ g ∷ []) ++ next ∷ []) left
waited w stack f g next left h same call unsettled = record {
  settling = h.settling;
  unsettled = λ q at. elim (Contains-push_cases lower next.pair q (subst (λ (l : List Pair). Contains l q) e at)) [
    | inl at ↦ h.unsettled q (subst (λ (l : List Pair). Contains l q) (sym (pairs_push stack f)) at)
    | inr e ↦ subst (IsUnsettled w) e unsettled
  ];
  falls = subst (Falls rank) (sym e) (falls-push rank lower next.pair falls (λ q at. elim (Contains-push_cases (pairs_of stack) f.pair q at) [
    | inl at ↦ let a = front.1 q at in let b = h.settling.can.falls f.pair next.pair call in omega arith
    | inr e ↦ subst (λ (r : Pair). rank next.pair < rank r) e (h.settling.can.falls f.pair next.pair call)
  ]));
}
  where
    lower : List Pair
    lower = pairs_of stack ++ f.pair ∷ []

    rank : Pair → ℕ
    rank = h.settling.can.rank

    e : pairs_of ((stack ++ g ∷ []) ++ next ∷ []) ≡ lower ++ next.pair ∷ []
    e = pairs_push (stack ++ g ∷ []) next ∙ ap (λ (l : List Pair). l ++ next.pair ∷ []) (pairs_push stack g ∙ ap (λ (q : Pair). pairs_of stack ++ q ∷ []) same)

    falls : Falls rank lower
    falls = subst (Falls rank) (pairs_push stack f) h.falls

    front : Falls rank (pairs_of stack) × ((q : Pair) → Contains (pairs_of stack) q → rank f.pair < rank q)
    front = falls-front rank (pairs_of stack) f.pair falls

-- ---- at the start, and one after the other

pub stacked_one : (w : Slots) (f : Frame) (left : ℕ) → IsSettling w left → IsUnsettled w f.pair → IsStacked w (f ∷ []) left
stacked_one w f left h unsettled = record {
  settling = h;
  unsettled = λ q at. elim (cons-cases f.pair [] q at) [ inl e ↦ subst (IsUnsettled w) e unsettled | inr none ↦ absurd (nil-cases q none) ];
  falls = (λ q none. absurd (nil-cases q none), tt);
}

pub settles_none : (w : Slots) → Settles w w
settles_none w = record { entry = λ q. refl; callers = λ q. refl; known = λ q h. h }

pub settles_then : (a b c : Slots) → Settles a b → Settles b c → Settles a c
settles_then a b c h k = record {
  entry = λ q. k.entry q ∙ h.entry q;
  callers = λ q. k.callers q ∙ h.callers q;
  known = λ q some. k.known q (h.known q some);
}
