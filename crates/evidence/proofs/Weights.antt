-- What is answered to a proposal whose program was tried.
use Rattle.std.proofs.Common.{ℕ, suc, ◌+◌, ◌*◌, ◌<◌, ◌≤◌, ◌≡◌, refl, sym, ap, subst, ◌∙◌, arith, ℤ, pos, inl, inr, List, [], length, Contains, true, false}
use Rattle.std.specs.Prelude.{◌⊎◌, ◌<ℤ◌, ◌≤ℤ◌, max, slice_get, IsFalse}
use Rattle.std.specs.declared.option.Option.{Option}
use Rattle.std.specs.declared.option.Option.TheVariants.{Some, None}
use Rattle.std.proofs.lemmas.Int.{ints}
use Rattle.seq_calls.proofs.Values.{gives_value}
use Rattle.seq_calls.specs.Frames.{steps_of}
use Rattle.seq_calls.specs.Values.{outcome, Gives}
use Rattle.loda_syntax.specs.Programs.{Text}
use Rattle.loda_semantics.specs.declared.kinds.FaultKind.TheVariants.{Missing}
use Rattle.loda_semantics.specs.Exec.{Outcome, value, fault, Calls, none, run_name, run_deep}
use Rattle.std.specs.Option.{option_map}
use Rattle.judge.specs.Changes.{IsSoundStore}
use Rattle.judge.proofs.Demanded.{demanded_runs}
use Rattle.program_store.specs.declared.published.Published.{Published}
use Rattle.program_store.specs.declared.published.Proposal.{Proposal}
use Rattle.program_store.specs.Store.{Store, published_at, programs_of, checked_at, checked_in, after, IsPublished}
use Rattle.seq_calls.specs.declared.outcomes.NodeRun.{NodeRun}
use Rattle.seq_calls.specs.Demand.{ample, InDem, IsReliedOn, LeastCaller}
use Rattle.judge.specs.declared.answer.Got.{Got}
use Rattle.judge.specs.declared.answer.Got.TheVariants as got
use Rattle.judge.specs.declared.answer.Answer.{Answer}
use Rattle.judge.specs.declared.answer.Answer.TheVariants.{Accepted, Unlisted, Cycle, WrongTerm, BrokenDependant, Costlier, NoGain}
use Rattle.judge.specs.Passed.{Terms, got_of, PassesBelow, FailsFirst}
use Rattle.judge.specs.Misses.{IsFirstMiss}
use Rattle.judge.specs.Sound.{Sound}
use Rattle.judge.specs.Judged.{LeastWith, IsNewChecked, Breaks, CostsMore, Gainless, Enters, Passes, Unbroken, NoDearer, IsJudged}
use Rattle.judge.proofs.Values.{term_at, place_within}
use Rattle.judge.proofs.Fresh.{judged_new, unpublished}
use Rattle.demand_table.specs.Replaceable.{AreRuns, IsRunAt}
use Rattle.evidence.specs.declared.comparing.Dearer.{Dearer}
use Rattle.evidence.specs.declared.weighing.Weighed.{Weighed}
use Rattle.evidence.specs.Runs.{AreRunsAt, AreFirst, IsFirst}
use Rattle.evidence.specs.Findings.{accepted_count, AreRunsFor}
use Rattle.evidence.specs.Trials.{IsDearerAt, IsLeastDearer, IsLeastOrNone, IsLesserOf, KeepsAt, SameStepsBelow, IsTried, IsWeighed, IsWeighedFor}
use Rattle.evidence.proofs.Outcomes.{agreeing, steps_value}
use Rattle.evidence.proofs.RunsAt.{same_at, more_at}

-- ---- what an answer says

pub refusal : (s : Store) (terms : Terms) (limit : ℕ) (proposal : Proposal) (w : Weighed) (a : Answer) → w.answer ≡ a → accepted_count a ≡ None → w.runs ≡ [] → IsJudged s terms limit proposal.name proposal.program a → IsWeighed s terms limit proposal w
refusal s terms limit proposal w a is refused empty h = record {
  answer = subst (λ (z : Answer). IsJudged s terms limit proposal.name proposal.program z) (sym is) h;
  runs = subst (λ (z : Answer). AreRunsFor s proposal (accepted_count z) w.runs) (sym is) (subst (λ (o : Option ℕ). AreRunsFor s proposal o w.runs) (sym refused) empty);
}

pub acceptance : (s : Store) (terms : Terms) (limit : ℕ) (proposal : Proposal) (w : Weighed) (checked : ℕ) → w.answer ≡ Accepted checked → IsJudged s terms limit proposal.name proposal.program (Accepted checked)
    → AreRuns s proposal.name proposal.program checked w.runs → IsWeighed s terms limit proposal w
acceptance s terms limit proposal w checked is h runs = record {
  answer = subst (λ (z : Answer). IsJudged s terms limit proposal.name proposal.program z) (sym is) h;
  runs = subst (λ (z : Answer). AreRunsFor s proposal (accepted_count z) w.runs) (sym is) runs;
}

-- ---- the terms

-- there is a value at each argument whose term is given
pub given_values : (s : Store) (limit q : ℕ) (p : Text) (row : List ℤ) (k : ℕ) → k ≤ length row → PassesBelow (after s q p) row q limit k → (x : ℤ) → IsFirst k x → (v : ℤ) × (used : ℕ) × (outcome (after s q p) q x limit ≡ value v used)
given_values s limit q p row k le h x a =
    let term = term_at row a.0 (let l = a.1 in omega (arith, l, le)) in
    let g = gives_value (outcome (after s q p) q (pos a.0) limit) term.0 (h a.0 term.0 a.1 term.1) in
    (term.0, g.0, ap (λ (z : ℤ). outcome (after s q p) q z limit) a.2 ∙ g.1)

pub miss_within : (s : Store) (limit q : ℕ) (p : Text) (row : List ℤ) (k : ℕ) (miss : Option Got) → IsFirstMiss (after s q p) row q limit k miss → (k ≤ length row) × PassesBelow (after s q p) row q limit k
miss_within s limit q p row k None h = ((let e = h.1 in omega (arith, e)), h.0)
miss_within s limit q p row k (Some g) h = ((let l = place_within row k h.0.0 h.0.1 in omega (arith, l)), h.0.3)

-- the count stands where nothing is wrong
pub counted : (s : Store) (limit q : ℕ) (p : Text) (row : List ℤ) (k old : ℕ) (miss : Option Got) → old ≡ checked_at s q → IsFirstMiss (after s q p) row q limit k miss
    → ((g : Got) → miss ≡ Some g → (g ≡ got.OutOfSteps) × (max 8 old ≤ k)) → IsNewChecked (after s q p) row q limit (checked_at s q) k
counted s limit q p row k old None is h right = inl h
counted s limit q p row k old (Some g) is h right = let w = right g refl in inr (h.0, sym h.1 ∙ w.0, subst (λ (n : ℕ). max 8 n ≤ k) is w.1)

pub wrong_term : (s : Store) (terms : Terms) (limit q : ℕ) (p : Text) (row : List ℤ) (k old : ℕ) (miss : Option Got) (g : Got) → old ≡ checked_at s q → miss ≡ Some g → Enters s terms q p row
    → IsFirstMiss (after s q p) row q limit k miss → (g ≡ got.OutOfSteps → k < max 8 old) → IsJudged s terms limit q p (WrongTerm k g)
wrong_term s terms limit q p row k old miss g is e enters h late =
    let there : IsFirstMiss (after s q p) row q limit k (Some g) = subst (λ (o : Option Got). IsFirstMiss (after s q p) row q limit k o) e h in
    (row, enters, there.0, there.1, λ f. subst (λ (n : ℕ). k < max 8 n) is (late f))

-- ---- a published name

module _ (s : Store) (limit q : ℕ) (p : Text) (checked : ℕ) (e : Published) (there : published_at s q ≡ Some e) where
  published : IsPublished s q
  published = (e, there)

  -- where each demanded value is kept, none breaks
  module _ (kept : KeepsAt s limit q p (InDem s q)) where
    pub none_breaks : (x : ℤ) → Breaks s limit q p x → ⊥
    none_breaks x b = let k = kept x b.0 in agreeing (outcome (programs_of s) q x limit) (outcome (after s q p) q x limit) k.0 k.1 k.2 k.3 k.4 b.1

    module _ (terms : Terms) (row : List ℤ) (passes : Passes s terms limit q p row checked) where
      unbroken : Unbroken s terms limit q p row checked
      unbroken = record { passes = passes; unbroken = λ there x b. none_breaks x b }

      pub judged_costlier : (d : Dearer) → IsLeastDearer s limit q p (IsReliedOn s q) d → IsJudged s terms limit q p (Costlier d.at d.was d.now)
      judged_costlier d h = (
        row,
        checked,
        unbroken,
        published,
        ((h.at, subst (λ (n : ℕ). n < steps_of (outcome (after s q p) q d.at limit)) h.was (subst (λ (n : ℕ). d.was < n) h.now h.dearer)), λ y lt k. h.least y lt k.0 k.1),
        h.was,
        h.now,
      )

      module _ (cheap : (y : ℤ) → IsReliedOn s q y → IsDearerAt s limit q p y → ⊥) where
        no_dearer : NoDearer s terms limit q p row checked
        no_dearer = record { unbroken = unbroken; no_dearer = λ there x k. cheap x k.0 k.1 }

        pub judged_no_gain : Gainless s limit q p checked → IsJudged s terms limit q p NoGain
        judged_no_gain g = (row, checked, no_dearer, published, g)

        pub judged_gain : (Gainless s limit q p checked → ⊥) → IsJudged s terms limit q p (Accepted checked)
        judged_gain not = (row, no_dearer, λ there g. not g)

  pub judged_broken : (at was : ℤ) (now : Got) (caller index : ℕ) (terms : Terms) (row : List ℤ) → Passes s terms limit q p row checked → LeastWith (Breaks s limit q p) at → Gives (outcome (programs_of s) q at limit) was
      → now ≡ got_of (outcome (after s q p) q at limit) → LeastCaller s q at caller index → IsJudged s terms limit q p (BrokenDependant at caller index was now)
  judged_broken at was now caller index terms row passes least gives is first = (row, checked, passes, published, least, first, gives, is)

-- ---- the least of both

module _ (s : Store) (limit q : ℕ) (p : Text) (e : Published) (there : published_at s q ≡ Some e) where
  count_here : checked_at s q ≡ e.checked
  count_here = ap checked_in there

  to_relied : (x : ℤ) → IsFirst e.checked x ⊎ InDem s q x → IsReliedOn s q x
  to_relied x (inl a) = inl (a.0, (let k = count_here in let l = a.1 in omega (arith, k, l)), a.2)
  to_relied x (inr d) = inr d

  from_relied : (x : ℤ) → IsReliedOn s q x → IsFirst e.checked x ⊎ InDem s q x
  from_relied x (inl a) = inl (a.0, (let k = count_here in let l = a.1 in omega (arith, k, l)), a.2)
  from_relied x (inr d) = inr d

  least_moved : (At Other : ℤ → Type 0) (o : Option Dearer) → ((x : ℤ) → At x → Other x) → ((x : ℤ) → Other x → At x) → IsLeastOrNone s limit q p At o → IsLeastOrNone s limit q p Other o
  least_moved At Other None to from h = λ y a d. h y (from y a) d
  least_moved At Other (Some d) to from h = record { at = to d.at h.at; was = h.was; now = h.now; dearer = h.dearer; least = λ y lt a k. h.least y lt (from y a) k }

  below_least : (x y z : ℤ) → x <ℤ y → y ≤ℤ z → x <ℤ z
  below_least x y z a b = omega (arith, ints)

  below_both : (x y z : ℤ) → x <ℤ y → y <ℤ z → x <ℤ z
  below_both x y z a b = omega (arith, ints)

  module _ (A B : ℤ → Type 0) where
    abbrev Either : ℤ → Type 0
    Either x = A x ⊎ B x

    abbrev Least : Option Dearer → Type 0
    Least o = IsLeastOrNone s limit q p Either o

    neither : ((y : ℤ) → A y → IsDearerAt s limit q p y → ⊥) → ((y : ℤ) → B y → IsDearerAt s limit q p y → ⊥) → Least None
    neither ha hb = by_case
      where
        by_case : (y : ℤ) → A y ⊎ B y → IsDearerAt s limit q p y → ⊥
        by_case y (inl a) k = ha y a k
        by_case y (inr b) k = hb y b k

    with_first : (d : Dearer) → IsLeastDearer s limit q p A d → ((y : ℤ) → y <ℤ d.at → B y → IsDearerAt s limit q p y → ⊥) → Least (Some d)
    with_first d h other = record { at = inl h.at; was = h.was; now = h.now; dearer = h.dearer; least = least }
      where
        least : (y : ℤ) → y <ℤ d.at → A y ⊎ B y → IsDearerAt s limit q p y → ⊥
        least y lt (inl a) k = h.least y lt a k
        least y lt (inr b) k = other y lt b k

    with_second : (d : Dearer) → IsLeastDearer s limit q p B d → ((y : ℤ) → y <ℤ d.at → A y → IsDearerAt s limit q p y → ⊥) → Least (Some d)
    with_second d h other = record { at = inr h.at; was = h.was; now = h.now; dearer = h.dearer; least = least }
      where
        least : (y : ℤ) → y <ℤ d.at → A y ⊎ B y → IsDearerAt s limit q p y → ⊥
        least y lt (inl a) k = other y lt a k
        least y lt (inr b) k = h.least y lt b k

    -- the least of those of either property
    both : (a b r : Option Dearer) → IsLesserOf a b r → IsLeastOrNone s limit q p A a → IsLeastOrNone s limit q p B b → Least r
    both None None r l ha hb = subst Least (sym l) (neither ha hb)
    both None (Some b) r l ha hb = subst Least (sym l) (with_second b hb (λ y lt a k. ha y a k))
    both (Some a) None r l ha hb = subst Least (sym l) (with_first a ha (λ y lt b k. hb y b k))
    both (Some a) (Some b) r (inl l) ha hb = subst Least (sym l.1) (with_first a ha (λ y lt other k. hb.least y (below_least y a.at b.at lt l.0) other k))
    both (Some a) (Some b) r (inr l) ha hb = subst Least (sym l.1) (with_second b hb (λ y lt other k. ha.least y (below_both y b.at a.at lt l.0) other k))

  pub least_relied : (a b r : Option Dearer) → IsLesserOf a b r → IsLeastOrNone s limit q p (IsFirst e.checked) a → IsLeastOrNone s limit q p (InDem s q) b → IsLeastOrNone s limit q p (IsReliedOn s q) r
  least_relied a b r l ha hb = least_moved (λ x. IsFirst e.checked x ⊎ InDem s q x) (IsReliedOn s q) r to_relied from_relied (both (IsFirst e.checked) (InDem s q) a b r l ha hb)

-- ---- the finished runs

pub runs_are : (s : Store) (limit q : ℕ) (p : Text) (checked : ℕ) (runs : List NodeRun) → limit ≤ ample → ((x : ℤ) → IsFirst checked x → (v : ℤ) × (used : ℕ) × (outcome (after s q p) q x limit ≡ value v used))
    → KeepsAt s limit q p (InDem s q) → AreRunsAt (after s q p) q limit (λ x. IsFirst checked x ⊎ InDem s q x) runs → AreRuns s q p checked runs
runs_are s limit q p checked runs few values kept h = more_at (after s q p) limit ample q (IsRunAt s q checked) runs few has_value h
  where
    has_value : (x : ℤ) → IsRunAt s q checked x → (v : ℤ) × (used : ℕ) × (outcome (after s q p) q x limit ≡ value v used)
    has_value x (inl a) = values x a
    has_value x (inr d) = let k = kept x d in (k.0, k.2, k.4)

-- ---- a name that isn't published

-- none of its arguments is demanded where the store is sound
pub undemanded : (s : Store) (limit q : ℕ) (x : ℤ) → limit ≤ ample → IsSoundStore s limit → published_at s q ≡ None → InDem s q x → ⊥
undemanded s limit q x few sound free d =
    let ran = demanded_runs s sound.0 limit sound.1 few q x d in
    let nothing : run_name (programs_of s) q x limit ≡ (fault Missing 0, none) = ap (λ (o : Option Published). run_deep (programs_of s) (suc limit) (option_map (λ (e : Published). e.program) o) x limit) free in
    let z : fault Missing 0 ≡ value ran.value_of ran.used = ap (λ (r : Outcome × Calls). r.0) (sym nothing ∙ ran.is) in cc

pub runs_new : (s : Store) (limit q : ℕ) (p : Text) (checked : ℕ) (runs : List NodeRun) → limit ≤ ample → IsSoundStore s limit → published_at s q ≡ None
    → ((x : ℤ) → IsFirst checked x → (v : ℤ) × (used : ℕ) × (outcome (after s q p) q x limit ≡ value v used)) → AreRunsAt (after s q p) q limit (IsFirst checked) runs → AreRuns s q p checked runs
runs_new s limit q p checked runs few sound free values h =
    runs_are s limit q p checked runs few values (λ x d. absurd (undemanded s limit q x few sound free d))
    (same_at (after s q p) q limit (IsFirst checked) (λ x. IsFirst checked x ⊎ InDem s q x) runs (λ x a. inl a) from h)
  where
    from : (x : ℤ) → IsFirst checked x ⊎ InDem s q x → IsFirst checked x
    from x (inl a) = a
    from x (inr d) = absurd (undemanded s limit q x few sound free d)
