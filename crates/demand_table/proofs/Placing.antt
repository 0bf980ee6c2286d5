-- Frames are put in, one after the other.
use Rattle.std.proofs.Common.{ℕ, suc, ◌+◌, ◌<◌, ◌≡◌, ◌⊎◌, inl, inr, refl, sym, ap, subst, ◌∙◌, Bool, true, false, ◌==◌, ◌&&◌, List, [], ◌∷◌, ◌++◌, Contains, take, get_or, length, if◌then◌else◌, arith, add-one}
use Rattle.std.specs.Prelude.{IsSome}
use Rattle.std.specs.Ordering.{int_eq}
use Rattle.std.specs.declared.option.Option.{Option}
use Rattle.std.specs.declared.option.Option.TheVariants.{Some, None}
use Rattle.std.proofs.lemmas.List.{take_more}
use Rattle.std.proofs.lemmas.List.Elements.{Contains-append_left, Contains-push}
use Rattle.std.proofs.lemmas.Bool.Decides.{Decides-eqb, Decides-int_eq}
use Rattle.loda_semantics.specs.declared.kinds.Pair.{Pair}
use Rattle.seq_calls.specs.declared.outcomes.NodeRun.{NodeRun}
use Rattle.demand_table.specs.declared.entry.Entry.{Entry}
use Rattle.demand_table.specs.declared.slot.Slot.{Slot}
use Rattle.demand_table.specs.Counts.{IsCount}
use Rattle.demand_table.specs.Work.{Slots, IsCounted, IsPut, AreRaised}
use Rattle.demand_table.specs.Settling.{IsUnsettled}
use Rattle.demand_table.specs.Mended.{run_of, run_at, either}
use Rattle.demand_table.specs.Mending.{IsPlaced, IsMending}
use Rattle.demand_table.proofs.Counts.{count_more}
use Rattle.demand_table.proofs.Counted.{none_is_some, is_some, put-counted}
use Rattle.demand_table.proofs.Pairs.{pair_cases, has_cases, same_parts}

-- ---- the frame of a pair

abbrev pub same_pair : Pair → Pair → Bool
same_pair p q = p.name == q.name && int_eq p.arg q.arg

and_true : (a b : Bool) → (a && b) ≡ true → (a ≡ true) × (b ≡ true)
and_true true b e = (refl, e)
and_true false b e = cc

pub test_true : (p q : Pair) → p ≡ q → same_pair p q ≡ true
test_true p q e = subst (λ (r : Pair). same_pair p r ≡ true) e (both (p.name == p.name) (int_eq p.arg p.arg) ((Decides-eqb p.name p.name).1 refl) ((Decides-int_eq p.arg p.arg).1 refl))
  where
    both : (a b : Bool) → a ≡ true → b ≡ true → (a && b) ≡ true
    both true true e f = refl
    both true false e f = cc
    both false b e f = cc

pub same_of : (p q : Pair) → same_pair p q ≡ true → p ≡ q
same_of p q e = let h = and_true (p.name == q.name) (int_eq p.arg q.arg) e in same_parts p q ((Decides-eqb p.name q.name).0 h.0) ((Decides-int_eq p.arg q.arg).0 h.1)

pub test_false : (p q : Pair) → (p ≡ q → ⊥) → same_pair p q ≡ false
test_false p q other = by (same_pair p q) refl
  where
    by : (b : Bool) → same_pair p q ≡ b → b ≡ false
    by false e = refl
    by true e = let h = and_true (p.name == q.name) (int_eq p.arg q.arg) e in absurd (other (same_parts p q ((Decides-eqb p.name q.name).0 h.0) ((Decides-int_eq p.arg q.arg).0 h.1)))

-- what one frame has of a pair
abbrev pub just : NodeRun → Pair → Option Entry
just r p = if same_pair r.pair p then Some (run_of r) else None

pub run_at-push : (rs : List NodeRun) (r : NodeRun) (p : Pair) → run_at (rs ++ r ∷ []) p ≡ either (run_at rs p) (just r p)
run_at-push [] r p = refl
run_at-push (k ∷ ks) r p = by (same_pair k.pair p) refl (run_at-push ks r p)
  where
    by : (b : Bool) → same_pair k.pair p ≡ b → run_at (ks ++ r ∷ []) p ≡ either (run_at ks p) (just r p)
        → (if same_pair k.pair p then Some (run_of k) else run_at (ks ++ r ∷ []) p) ≡ either (if same_pair k.pair p then Some (run_of k) else run_at ks p) (just r p)
    by true e rest = ap (λ (b : Bool). if b then Some (run_of k) else run_at (ks ++ r ∷ []) p) e ∙ sym (ap (λ (b : Bool). either (if b then Some (run_of k) else run_at ks p) (just r p)) e)
    by false e rest = ap (λ (b : Bool). if b then Some (run_of k) else run_at (ks ++ r ∷ []) p) e ∙ rest ∙ sym (ap (λ (b : Bool). either (if b then Some (run_of k) else run_at ks p) (just r p)) e)

either-assoc : (a b c : Option Entry) → either (either a b) c ≡ either a (either b c)
either-assoc (Some x) b c = refl
either-assoc None b c = refl

either-none : (a : Option Entry) → either a None ≡ a
either-none (Some x) = refl
either-none None = refl

either-some : (a c : Option Entry) → IsSome a → either a c ≡ a
either-some (Some x) c h = refl
either-some None c h = cc

either-cases : (a c : Option Entry) → IsSome (either a c) → IsSome a ⊎ IsSome c
either-cases (Some x) c h = inl refl
either-cases None c h = inr h

-- ---- one more frame

module _ (old w : Slots) (done : List NodeRun) (pending now after : List Pair) (stand : ℕ) (r : NodeRun) (h : IsMending old w done pending now stand) (grown : after ≡ now ++ r.pair ∷ []) where
  p : Pair
  p = r.pair

  grows : (q : Pair) → Contains now q → Contains after q
  grows q at = subst (λ (l : List Pair). Contains l q) (sym grown) (Contains-append_left now (r.pair ∷ []) q at)

  joined : Contains after r.pair
  joined = subst (λ (l : List Pair). Contains l r.pair) (sym grown) (Contains-push now r.pair)

  all_join : (q : Pair) → IsSome (run_at (done ++ r ∷ []) q) → Contains after q
  all_join q some = by (either-cases (run_at done q) (just r q) (subst (λ (o : Option Entry). IsSome o) (run_at-push done r q) some)) (pair_cases r.pair q)
    where
      by : IsSome (run_at done q) ⊎ IsSome (just r q) → (r.pair ≡ q) ⊎ (r.pair ≡ q → ⊥) → Contains after q
      by (inl k) c = grows q (h.joins q k)
      by (inr k) (inl e) = subst (Contains after) e joined
      by (inr k) (inr other) = absurd (none_is_some (just r q) (ap (λ (b : Bool). if b then Some (run_of r) else None) (test_false r.pair q other)) k)

  entries : (new : Slots) → ((q : Pair) → (new q).entry ≡ either (w q).entry (just r q)) → (q : Pair) → (new q).entry ≡ either (old q).entry (run_at (done ++ r ∷ []) q)
  entries new each q =
      each q ∙ ap (λ (o : Option Entry). either o (just r q)) (h.entry q) ∙ either-assoc (old q).entry (run_at done q) (just r q)
      ∙ ap (either (old q).entry) (sym (run_at-push done r q))

  just_other : (q : Pair) → (r.pair ≡ q → ⊥) → just r q ≡ None
  just_other q other = ap (λ (b : Bool). if b then Some (run_of r) else None) (test_false r.pair q other)

  just_here : just r r.pair ≡ Some (run_of r)
  just_here = ap (λ (b : Bool). if b then Some (run_of r) else None) (test_true r.pair r.pair refl)

  -- a run stands there already
  pub mended_again : (new : Slots) → IsPlaced w new r false → IsMending old new (done ++ r ∷ []) pending after stand
  mended_again new kept = subst (λ (k : Slots). IsMending old k (done ++ r ∷ []) pending after stand) (sym same) (record {
    entry = entries w each;
    counted = h.counted;
    many = h.many;
    keeps = λ q at. grows q (h.keeps q at);
    joins = all_join;
    fewer = h.fewer;
    known = h.known;
    totals = h.totals;
  })
    where
      same : new ≡ w
      same = λ i q. kept.1 q i

      each : (q : Pair) → (w q).entry ≡ either (w q).entry (just r q)
      each q = by (pair_cases r.pair q)
        where
          by : (r.pair ≡ q) ⊎ (r.pair ≡ q → ⊥) → (w q).entry ≡ either (w q).entry (just r q)
          by (inl e) = sym (either-some (w q).entry (just r q) (subst (λ (s : Pair). IsSome (w s).entry) e kept.0))
          by (inr other) = sym (ap (either (w q).entry) (just_other q other) ∙ either-none (w q).entry)

  -- its run is put in
  module _ (mid new : Slots) (kept : IsPlaced w mid r true) (raised : AreRaised mid new r.calls) where
    mid_callers : (q : Pair) → (mid q).callers ≡ (w q).callers
    mid_callers q = by (pair_cases q r.pair)
      where
        by : (q ≡ r.pair) ⊎ (q ≡ r.pair → ⊥) → (mid q).callers ≡ (w q).callers
        by (inl e) = subst (λ (s : Pair). (mid s).callers ≡ (w s).callers) (sym e) (ap (λ (s : Slot). s.callers) kept.1.here)
        by (inr other) = ap (λ (s : Slot). s.callers) (kept.1.others q other)

    is_here : (new r.pair).entry ≡ Some (run_of r)
    is_here = raised.entry r.pair ∙ ap (λ (s : Slot). s.entry) kept.1.here

    is_other : (q : Pair) → (q ≡ r.pair → ⊥) → (new q).entry ≡ (w q).entry
    is_other q other = raised.entry q ∙ ap (λ (s : Slot). s.entry) (kept.1.others q other)

    is_put : IsPut w new r.pair (run_of r)
    is_put = record {
      was = kept.0;
      here = is_here;
      others = is_other;
      raised = λ q at. raised.raised q at ∙ ap suc (mid_callers q);
      same = λ q none. raised.same q none ∙ mid_callers q;
    }

    total_other : (q : Pair) → (q ≡ r.pair → ⊥) → (new q).total ≡ (w q).total
    total_other q other = raised.total q ∙ ap (λ (s : Slot). s.total) (kept.1.others q other)

    no_callers : (q : Pair) → (new q).callers ≡ 0 → (w q).callers ≡ 0
    no_callers q none = by (has q)
      where
        has : (q : Pair) → Contains r.calls q ⊎ (Contains r.calls q → ⊥)
        has q = has_cases r.calls q

        by : Contains r.calls q ⊎ (Contains r.calls q → ⊥) → (w q).callers ≡ 0
        by (inl at) = let e = raised.raised q at in absurd (omega arith)
        by (inr off) = sym (mid_callers q) ∙ sym (raised.same q off) ∙ none

    pub mended_more : IsMending old new (done ++ r ∷ []) pending after (stand + 1)
    mended_more = record {
      entry = entries new each;
      counted = put-counted w new r.pair (run_of r) is_put h.counted;
      many = subst (λ (n : ℕ). IsCount (λ q. IsSome (new q).entry) n) (sym (add-one stand))
          (count_more (λ q. IsSome (w q).entry) (λ q. IsSome (new q).entry) stand r.pair (none_is_some (w r.pair).entry kept.0) cases (is_some (new r.pair).entry (run_of r) is_here) on h.many);
      keeps = λ q at. grows q (h.keeps q at);
      joins = all_join;
      fewer = λ q none. h.fewer q (no_callers q none);
      known = known;
      totals = totals;
    }
      where
        each : (q : Pair) → (new q).entry ≡ either (w q).entry (just r q)
        each q = by (pair_cases q r.pair)
          where
            by : (q ≡ r.pair) ⊎ (q ≡ r.pair → ⊥) → (new q).entry ≡ either (w q).entry (just r q)
            by (inl e) = subst (λ (s : Pair). (new s).entry ≡ either (w s).entry (just r s)) (sym e)
                (is_here ∙ sym (ap (λ (o : Option Entry). either o (just r r.pair)) kept.0 ∙ just_here))
            by (inr other) = is_other q other ∙ sym (ap (either (w q).entry) (just_other q (λ e. other (sym e))) ∙ either-none (w q).entry)

        cases : (q : Pair) → IsSome (new q).entry → (q ≡ r.pair) ⊎ IsSome (w q).entry
        cases q here = by (pair_cases q r.pair)
          where
            by : (q ≡ r.pair) ⊎ (q ≡ r.pair → ⊥) → (q ≡ r.pair) ⊎ IsSome (w q).entry
            by (inl e) = inl e
            by (inr other) = inr (subst (λ (o : Option Entry). IsSome o) (is_other q other) here)

        on : (q : Pair) → IsSome (w q).entry → IsSome (new q).entry
        on q here = subst (λ (o : Option Entry). IsSome o) (sym (is_other q (λ e. none_is_some (w r.pair).entry kept.0 (subst (λ (s : Pair). IsSome (w s).entry) e here)))) here

        known : (q : Pair) → IsUnsettled new q → IsUnsettled old q
        known q k = by (pair_cases q r.pair)
          where
            by : (q ≡ r.pair) ⊎ (q ≡ r.pair → ⊥) → IsUnsettled old q
            by (inl e) = absurd (none_is_some (new q).total k.unknown (subst (λ (s : Pair). IsSome (new s).total) (sym e) (is_total (new r.pair).total (raised.total r.pair ∙ ap (λ (s : Slot). s.total) kept.1.here))))
              where
                is_total : (o : Option ℕ) → o ≡ Some 0 → IsSome o
                is_total None e = cc
                is_total (Some t) e = refl
            by (inr other) = h.known q (record { stands = subst (λ (o : Option Entry). IsSome o) (is_other q other) k.stands; unknown = sym (total_other q other) ∙ k.unknown })

        totals : (q : Pair) → IsSome (old q).entry → (new q).total ≡ (old q).total
        totals q here = by (pair_cases q r.pair)
          where
            by : (q ≡ r.pair) ⊎ (q ≡ r.pair → ⊥) → (new q).total ≡ (old q).total
            by (inl e) = absurd (none_is_some (w r.pair).entry kept.0 (subst (λ (s : Pair). IsSome (w s).entry) e
                (subst (λ (o : Option Entry). IsSome o) (sym (h.entry q ∙ either-some (old q).entry (run_at done q) here)) here)))
            by (inr other) = total_other q other ∙ h.totals q here

pub mended_none : (w : Slots) (pending : List Pair) (stand : ℕ) → IsCounted w → IsCount (λ p. IsSome (w p).entry) stand → IsMending w w [] pending pending stand
mended_none w pending stand counted many = record {
  entry = λ p. sym (either-none (w p).entry);
  counted = counted;
  many = many;
  keeps = λ q at. at;
  joins = λ q some. cc;
  fewer = λ q none. none;
  known = λ q k. k;
  totals = λ q here. refl;
}

pub runs_upto : (runs : List NodeRun) (i : ℕ) (r : NodeRun) → i < length runs → r ≡ get_or runs i r → take (i + 1) runs ≡ take i runs ++ r ∷ []
runs_upto runs i r lt is = take_more runs i r lt ∙ ap (λ c. take i runs ++ c ∷ []) (sym is)
