-- Where nothing is left that nobody calls and no check needs, the runs that stand are the live ones.
use Rattle.std.proofs.Common.{ℕ, zero, suc, ◌+◌, ◌<◌, ◌≤◌, ◌≡◌, ◌⊎◌, inl, inr, sym, ap, subst, ◌∙◌, List, [], ◌∷◌, ◌++◌, Contains, max, arith}
use Rattle.std.specs.Prelude.{IsSome}
use Rattle.std.specs.declared.option.Option.{Option}
use Rattle.std.specs.declared.option.Option.TheVariants.{Some, None}
use Rattle.std.proofs.lemmas.Bool.{cases_eq}
use Rattle.std.proofs.lemmas.List.Elements.{Contains-push_cases}
use Rattle.loda_semantics.specs.declared.kinds.Pair.{Pair}
use Rattle.demand_table.specs.declared.entry.Entry.{Entry}
use Rattle.demand_table.specs.Counts.{IsCount}
use Rattle.demand_table.specs.Drawn.{CheckedRanges, Runs, IsChecked, RunCalls, ReachedAfter, IsReached, HasNoCycle}
use Rattle.demand_table.specs.Work.{Slots, runs_in, without_run, IsSet, IsCounted, AreLowered, IsTakenOut, IsDropping, IsDropped, KeepsTotals}
use Rattle.demand_table.specs.declared.slot.Slot.{Slot}
use Rattle.demand_table.proofs.Counts.{nil-cases, cons-cases, count_less, none_of_zero, some_of_count}
use Rattle.demand_table.proofs.Pairs.{pair_cases, has_cases}
use Rattle.demand_table.proofs.Counted.{none_is_some, some_is, is_some, same_entry, taken-counted}

-- a number above those that f gives on a list
above : (f : Pair → ℕ) (ps : List Pair) → (n : ℕ) × ((p : Pair) → Contains ps p → f p < n)
above f [] = (0, λ p at. absurd (nil-cases p at))
above f (q ∷ qs) =
    let rest = above f qs in (
      max rest.0 (suc (f q)),
      λ p at. elim (cons-cases q qs p at) [
        | inl e ↦ let h : f q ≡ f p = ap f e in omega arith
        | inr at ↦ let h : f p < rest.0 = rest.1 p at in omega arith
      ],
    )

pub live_call : (C : CheckedRanges) (R : Runs) (from to : Pair) → IsReached C R from → RunCalls R from to → IsReached C R to
live_call C R from to live h = (suc live.0, (from, live.1, h))

pub live_checked : (C : CheckedRanges) (R : Runs) (p : Pair) → IsChecked C p → IsReached C R p
live_checked C R p h = (zero, h)

module _ (C : CheckedRanges) (R : Runs) (w : Slots) where
  module _ (rank : Pair → ℕ) (falls : (from to : Pair) → RunCalls R from to → rank to < rank from)
      (within : (p : Pair) (e : Entry) → (w p).entry ≡ Some e → R p ≡ Some e)
      (called : (p : Pair) → IsSome (w p).entry → IsChecked C p ⊎ ((from : Pair) × RunCalls (runs_in w) from p))
      (top : ℕ) (low : (p : Pair) → IsSome (w p).entry → rank p < top) where
    -- up along callers, whose ranks rise, to a checked pair
    live_from : (room : ℕ) (p : Pair) → IsSome (w p).entry → top ≤ rank p + room → IsReached C R p
    live_from zero p here le = let lt = low p here in absurd (omega arith)
    live_from (suc room) p here le =
        elim (called p here) [
          | inl checked ↦ live_checked C R p checked
          | inr h ↦
              let call : RunCalls R h.0 p = (h.1.0, within h.0 h.1.0 h.1.1, h.1.2) in
              let up : rank p < rank h.0 = falls h.0 p call in
              live_call C R h.0 p (live_from room h.0 (is_some (w h.0).entry h.1.0 h.1.1) (omega arith)) call
        ]

  -- nothing is pending: what stands is live
  pub none_pending : (left : ℕ) → HasNoCycle R → IsDropping C R w [] left → IsDropped C R w left
  none_pending left acyclic h =
      let bound = above acyclic.0 h.many.things in
      record {
        within = h.within;
        kept = h.kept;
        live = λ p here. live_from acyclic.0 acyclic.1 h.within called bound.0 (λ q some. bound.1 q ((h.many.exact q).0 some)) bound.0 p here (omega arith);
        counted = h.counted;
        many = h.many;
      }
    where
      called : (p : Pair) → IsSome (w p).entry → IsChecked C p ⊎ ((from : Pair) × RunCalls (runs_in w) from p)
      called p here = by (cases_eq (w p).callers 0)
        where
          by : ((w p).callers ≡ 0) ⊎ ((w p).callers ≡ 0 → ⊥) → IsChecked C p ⊎ ((from : Pair) × RunCalls (runs_in w) from p)
          by (inl none) = elim (h.waiting p here none) [ inl c ↦ inl c | inr at ↦ absurd (nil-cases p at) ]
          by (inr some) = inr (some_of_count (λ from. RunCalls (runs_in w) from p) (w p).callers (omega arith) (h.counted p))

  -- a pair that needs no look: it has no run, or is called, or is checked
  pub passed_over : (pending : List Pair) (p : Pair) (left : ℕ) → IsDropping C R w (pending ++ p ∷ []) left
      → (IsSome (w p).entry → (w p).callers ≡ 0 → IsChecked C p) → IsDropping C R w pending left
  passed_over pending p left h need = record {
    within = h.within;
    kept = h.kept;
    counted = h.counted;
    waiting = λ q here none. elim (h.waiting q here none) [
      | inl c ↦ inl c
      | inr at ↦ elim (Contains-push_cases pending p q at) [
        | inl at ↦ inr at
        | inr same ↦ inl (subst (λ (r : Pair). IsChecked C r) same (need (subst (λ (r : Pair). IsSome (w r).entry) (sym same) here) (subst (λ (r : Pair). (w r).callers ≡ 0) (sym same) none)))
      ]
    ];
    many = h.many;
  }

  -- what nobody calls and no check needs is not live
  pub not_live : (pending : List Pair) (left : ℕ) (p : Pair) → IsDropping C R w pending left → (w p).callers ≡ 0 → (IsChecked C p → ⊥) → IsReached C R p → ⊥
  not_live pending left p h none unchecked live = by live.0 live.1
    where
      called : (from : Pair) → IsReached C R from → RunCalls R from p → ⊥
      called from up call =
          let there = some_is (w from).entry (h.kept from up) in
          let same = same_entry (R from) call.0 there.0 call.1 (h.within from there.0 there.1) in
          let here : RunCalls (runs_in w) from p = (there.0, there.1, subst (λ (f : Entry). Contains f.calls p) same call.2) in
          none_of_zero (λ from. RunCalls (runs_in w) from p) (subst (λ (n : ℕ). IsCount (λ from. RunCalls (runs_in w) from p) n) none (h.counted p)) from here

      by : (n : ℕ) → ReachedAfter C R n p → ⊥
      by zero h = unchecked h
      by (suc n) h = called h.0 (n, h.1) h.2

-- a dead run is taken out, and what it called is looked at where nobody else calls it
pub dropped : (C : CheckedRanges) (R : Runs) (old new : Slots) (pending now : List Pair) (p : Pair) (e : Entry) (left : ℕ)
    → IsDropping C R old (pending ++ p ∷ []) left → IsTakenOut old new p e → (old p).callers ≡ 0 → (IsChecked C p → ⊥)
    → ((q : Pair) → Contains pending q → Contains now q) → ((q : Pair) → Contains e.calls q → (new q).callers ≡ 0 → Contains now q)
    → (m : ℕ) × (left ≡ suc m) × IsDropping C R new now m
dropped C R old new pending now p e left h taken none unchecked keeps adds =
    let less = count_less (λ q. IsSome (old q).entry) (λ q. IsSome (new q).entry) left p
    (is_some (old p).entry e taken.was) (none_is_some (new p).entry taken.gone)
    (λ q here other. subst (λ (o : Option Entry). IsSome o) (sym (taken.others q other)) here) was h.many in (
      less.0,
      less.1,
      record {
        within = λ q f is. h.within q f (sym (taken.others q (apart q (is_some (new q).entry f is))) ∙ is);
        kept = λ q live. subst (λ (o : Option Entry). IsSome o) (sym (taken.others q (λ same. not_live C R old (pending ++ p ∷ []) left p h none unchecked (subst (IsReached C R) same live)))) (h.kept q live);
        counted = taken-counted old new p e taken h.counted;
        waiting = waiting;
        many = less.2;
      },
    )
  where
    apart : (q : Pair) → IsSome (new q).entry → q ≡ p → ⊥
    apart q here same = none_is_some (new p).entry taken.gone (subst (λ (r : Pair). IsSome (new r).entry) same here)

    was : (q : Pair) → IsSome (new q).entry → IsSome (old q).entry
    was q here = subst (λ (o : Option Entry). IsSome o) (taken.others q (apart q here)) here

    waiting : (q : Pair) → IsSome (new q).entry → (new q).callers ≡ 0 → IsChecked C q ⊎ Contains now q
    waiting q here uncalled = by (has_cases e.calls q)
      where
        by : Contains e.calls q ⊎ (Contains e.calls q → ⊥) → IsChecked C q ⊎ Contains now q
        by (inl at) = inr (adds q at uncalled)
        by (inr not) = elim (h.waiting q (was q here) (sym (taken.same q not) ∙ uncalled)) [
          | inl c ↦ inl c
          | inr at ↦ elim (Contains-push_cases pending p q at) [ inl at ↦ inr (keeps q at) | inr same ↦ absurd (apart q here (sym same)) ]
        ]

-- ---- the steps of the loop

-- what a run calls has a caller
pub called_some : (w : Slots) (from to : Pair) → IsCounted w → RunCalls (runs_in w) from to → 0 < (w to).callers
called_some w from to counted call = by (cases_eq (w to).callers 0)
  where
    by : ((w to).callers ≡ 0) ⊎ ((w to).callers ≡ 0 → ⊥) → 0 < (w to).callers
    by (inl none) = absurd (none_of_zero (λ from. RunCalls (runs_in w) from to) (subst (λ (n : ℕ). IsCount (λ from. RunCalls (runs_in w) from to) n) none (counted to)) from call)
    by (inr some) = omega arith

-- slots with the same runs and as many callers
pub dropping_same : (C : CheckedRanges) (R : Runs) (old new : Slots) (pending : List Pair) (left : ℕ)
    → ((q : Pair) → (new q).entry ≡ (old q).entry) → ((q : Pair) → (new q).callers ≡ (old q).callers) → IsDropping C R old pending left → IsDropping C R new pending left
dropping_same C R old new pending left entry callers h =
    let runs : runs_in new ≡ runs_in old = λ i q. entry q i in
    record {
      within = λ p e is. h.within p e (sym (entry p) ∙ is);
      kept = λ p live. subst (λ (o : Option Entry). IsSome o) (sym (entry p)) (h.kept p live);
      counted = λ q. subst (λ (S : Runs). IsCount (λ from. RunCalls S from q) (new q).callers) (sym runs) (subst (λ (n : ℕ). IsCount (λ from. RunCalls (runs_in old) from q) n) (sym (callers q)) (h.counted q));
      waiting = λ p here none. h.waiting p (subst (λ (o : Option Entry). IsSome o) (entry p) here) (sym (callers p) ∙ none);
      many = subst (λ (S : Runs). IsCount (λ p. IsSome (S p)) left) (sym runs) h.many;
    }

pub dropping_copied : (C : CheckedRanges) (R : Runs) (old new : Slots) (pending : List Pair) (left : ℕ) → ((q : Pair) → new q ≡ old q) → IsDropping C R old pending left → IsDropping C R new pending left
dropping_copied C R old new pending left same h = dropping_same C R old new pending left (λ q. ap (λ (s : Slot). s.entry) (same q)) (λ q. ap (λ (s : Slot). s.callers) (same q)) h

-- taking a run out leaves the callers
pub set_callers : (old new : Slots) (p q : Pair) → IsSet old new p (without_run (old p)) → (new q).callers ≡ (old q).callers
set_callers old new p q set = elim (pair_cases q p) [
  | inl e ↦ subst (λ (r : Pair). (new r).callers ≡ (old r).callers) (sym e) (ap (λ (s : Slot). s.callers) set.here)
  | inr other ↦ ap (λ (s : Slot). s.callers) (set.others q other)
]

-- a slot without a run is emptied
pub emptied : (C : CheckedRanges) (R : Runs) (old new : Slots) (pending : List Pair) (left : ℕ) (p : Pair) → IsSet old new p (without_run (old p)) → (old p).entry ≡ None
    → IsDropping C R old pending left → IsDropping C R new pending left
emptied C R old new pending left p set none h = dropping_same C R old new pending left entry callers h
  where
    entry : (q : Pair) → (new q).entry ≡ (old q).entry
    entry q = elim (pair_cases q p) [
      | inl e ↦ subst (λ (r : Pair). (new r).entry ≡ (old r).entry) (sym e) (ap (λ (s : Slot). s.entry) set.here ∙ sym none)
      | inr other ↦ ap (λ (s : Slot). s.entry) (set.others q other)
    ]

    callers : (q : Pair) → (new q).callers ≡ (old q).callers
    callers q = set_callers old new p q set

-- a run is taken out, and then the callers of what it called are lowered
pub taken_from : (old mid new : Slots) (p : Pair) (e : Entry) (calls pending now : List Pair) → (old p).entry ≡ Some e → IsSet old mid p (without_run (old p)) → calls ≡ e.calls
    → AreLowered mid new calls pending now → IsTakenOut old new p e
taken_from old mid new p e calls pending now was set same h = record {
  was = was;
  gone = h.entry p ∙ ap (λ (s : Slot). s.entry) set.here;
  others = λ q other. h.entry q ∙ ap (λ (s : Slot). s.entry) (set.others q other);
  lowered = λ q at. sym (set_callers old mid p q set) ∙ h.lowered q (subst (λ (l : List Pair). Contains l q) (sym same) at);
  same = λ q none. h.same q (λ at. none (subst (λ (l : List Pair). Contains l q) same at)) ∙ set_callers old mid p q set;
}

-- ---- totals of runs that stand

pub keeps_copied : (first old new : Slots) → ((q : Pair) → new q ≡ old q) → KeepsTotals first old → KeepsTotals first new
keeps_copied first old new same h p here = ap (λ (s : Slot). s.total) (same p) ∙ h p (subst (λ (s : Slot). IsSome s.entry) (same p) here)

pub keeps_set : (first old new : Slots) (p : Pair) → IsSet old new p (without_run (old p)) → KeepsTotals first old → KeepsTotals first new
keeps_set first old new p set h q here = by (pair_cases q p)
  where
    by : (q ≡ p) ⊎ (q ≡ p → ⊥) → (new q).total ≡ (first q).total
    by (inl e) = absurd (none_is_some (new p).entry (ap (λ (s : Slot). s.entry) set.here) (subst (λ (r : Pair). IsSome (new r).entry) e here))
    by (inr other) = ap (λ (s : Slot). s.total) (set.others q other) ∙ h q (subst (λ (s : Slot). IsSome s.entry) (set.others q other) here)

pub keeps_lowered : (first mid new : Slots) (calls pending now : List Pair) → AreLowered mid new calls pending now → KeepsTotals first mid → KeepsTotals first new
keeps_lowered first mid new calls pending now low h q here = low.total q ∙ h q (subst (λ (o : Option Entry). IsSome o) (low.entry q) here)
