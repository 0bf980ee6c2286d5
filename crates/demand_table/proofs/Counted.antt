-- The numbers of callers stay right where a run is taken out or put in.
use Rattle.std.proofs.Common.{ℕ, suc, ◌≡◌, ◌⊎◌, inl, inr, refl, sym, subst, ◌∙◌, Contains, arith}
use Rattle.std.specs.Prelude.{IsSome}
use Rattle.std.specs.declared.option.Option.{Option}
use Rattle.std.specs.declared.option.Option.TheVariants.{Some, None}
use Rattle.loda_semantics.specs.declared.kinds.Pair.{Pair}
use Rattle.demand_table.specs.declared.entry.Entry.{Entry}
use Rattle.demand_table.specs.Counts.{IsCount}
use Rattle.demand_table.specs.Drawn.{Runs, RunCalls}
use Rattle.demand_table.specs.Work.{Slots, runs_in, IsCounted, IsTakenOut, IsPut}
use Rattle.demand_table.proofs.Counts.{count_same, count_more, count_less}
use Rattle.demand_table.proofs.Pairs.{pair_cases, has_cases}

-- ---- what stands in an option

pub none_is_some : {X : Type 0} (o : Option X) → o ≡ None → IsSome o → ⊥
none_is_some None e h = cc
none_is_some (Some x) e h = cc

pub some_is : {X : Type 0} (o : Option X) → IsSome o → (x : X) × (o ≡ Some x)
some_is None h = cc
some_is (Some x) h = (x, refl)

pub is_some : {X : Type 0} (o : Option X) (x : X) → o ≡ Some x → IsSome o
is_some None x e = cc
is_some (Some y) x e = refl

pub same_entry : (o : Option Entry) (e f : Entry) → o ≡ Some e → o ≡ Some f → e ≡ f
same_entry o e f a b = let h : Some e ≡ Some f = sym a ∙ b in cc

-- ---- a run that calls

module _ (w : Slots) where
  -- a pair whose run is e calls just what e calls
  pub calls_of_entry : (from to : Pair) (e : Entry) → (w from).entry ≡ Some e → RunCalls (runs_in w) from to → Contains e.calls to
  calls_of_entry from to e is h = subst (λ (f : Entry). Contains f.calls to) (same_entry (w from).entry h.0 e h.1 is) h.2

  pub no_calls : (from to : Pair) → (w from).entry ≡ None → RunCalls (runs_in w) from to → ⊥
  no_calls from to is h = none_is_some (w from).entry is (is_some (w from).entry h.0 h.1)

-- what the runs of one pair call does not change where its run does not
pub same_calls : (R S : Runs) (from to : Pair) → S from ≡ R from → RunCalls R from to → RunCalls S from to
same_calls R S from to is h = (h.0, is ∙ h.1, h.2)

-- ---- taken out

module _ (old new : Slots) (p : Pair) (e : Entry) (taken : IsTakenOut old new p e) where
  apart : (from to : Pair) → RunCalls (runs_in new) from to → from ≡ p → ⊥
  apart from to h same = no_calls new p to taken.gone (subst (λ (q : Pair). RunCalls (runs_in new) q to) same h)

  before : (from to : Pair) → RunCalls (runs_in new) from to → RunCalls (runs_in old) from to
  before from to h = same_calls (runs_in new) (runs_in old) from to (sym (taken.others from (apart from to h))) h

  after : (from to : Pair) → RunCalls (runs_in old) from to → (from ≡ p → ⊥) → RunCalls (runs_in new) from to
  after from to h other = same_calls (runs_in old) (runs_in new) from to (taken.others from other) h

  pub taken-counted : IsCounted old → IsCounted new
  taken-counted counted q = by (has_cases e.calls q)
    where
      lower : Contains e.calls q → (m : ℕ) × ((old q).callers ≡ suc m) × IsCount (λ from. RunCalls (runs_in new) from q) m → IsCount (λ from. RunCalls (runs_in new) from q) (new q).callers
      lower at less =
          let was = taken.lowered q at in
          let is = less.1 in
          let same : less.0 ≡ (new q).callers = omega arith in
          subst (λ (n : ℕ). IsCount (λ from. RunCalls (runs_in new) from q) n) same less.2

      by : Contains e.calls q ⊎ (Contains e.calls q → ⊥) → IsCount (λ from. RunCalls (runs_in new) from q) (new q).callers
      by (inl at) =
          lower at (count_less (λ from. RunCalls (runs_in old) from q) (λ from. RunCalls (runs_in new) from q) (old q).callers p
          (e, taken.was, at) (λ h. apart p q h refl) (λ from h other. after from q h other) (λ from h. before from q h) (counted q))
      by (inr none) =
          subst (λ (n : ℕ). IsCount (λ from. RunCalls (runs_in new) from q) n) (sym (taken.same q none))
          (count_same (λ from. RunCalls (runs_in old) from q) (λ from. RunCalls (runs_in new) from q) (old q).callers
          (λ from h. after from q h (λ same. none (calls_of_entry old p q e taken.was (subst (λ (r : Pair). RunCalls (runs_in old) r q) same h))))
          (λ from h. before from q h) (counted q))

-- ---- put in

module _ (old new : Slots) (p : Pair) (e : Entry) (put : IsPut old new p e) where
  was_apart : (from to : Pair) → RunCalls (runs_in old) from to → from ≡ p → ⊥
  was_apart from to h same = no_calls old p to put.was (subst (λ (q : Pair). RunCalls (runs_in old) q to) same h)

  on : (from to : Pair) → RunCalls (runs_in old) from to → RunCalls (runs_in new) from to
  on from to h = same_calls (runs_in old) (runs_in new) from to (put.others from (was_apart from to h)) h

  back : (from to : Pair) → RunCalls (runs_in new) from to → (from ≡ p → ⊥) → RunCalls (runs_in old) from to
  back from to h other = same_calls (runs_in new) (runs_in old) from to (sym (put.others from other)) h

  pub put-counted : IsCounted old → IsCounted new
  put-counted counted q = by (has_cases e.calls q)
    where
      cases : (from : Pair) → RunCalls (runs_in new) from q → (from ≡ p) ⊎ RunCalls (runs_in old) from q
      cases from h = elim (pair_cases from p) [ inl same ↦ inl same | inr other ↦ inr (back from q h other) ]

      by : Contains e.calls q ⊎ (Contains e.calls q → ⊥) → IsCount (λ from. RunCalls (runs_in new) from q) (new q).callers
      by (inl at) =
          subst (λ (n : ℕ). IsCount (λ from. RunCalls (runs_in new) from q) n) (sym (put.raised q at))
          (count_more (λ from. RunCalls (runs_in old) from q) (λ from. RunCalls (runs_in new) from q) (old q).callers p
          (λ h. was_apart p q h refl) cases (e, put.here, at) (λ from h. on from q h) (counted q))
      by (inr none) =
          subst (λ (n : ℕ). IsCount (λ from. RunCalls (runs_in new) from q) n) (sym (put.same q none))
          (count_same (λ from. RunCalls (runs_in old) from q) (λ from. RunCalls (runs_in new) from q) (old q).callers
          (λ from h. on from q h)
          (λ from h. back from q h (λ same. none (calls_of_entry new p q e put.here (subst (λ (r : Pair). RunCalls (runs_in new) r q) same h))))
          (counted q))
