-- The answer to a proposal for a published name.
use Rattle.std.proofs.Common.{ℕ, ◌<◌, ◌≤◌, ◌≡◌, refl, sym, ap, subst, ◌∙◌, arith, ℤ, pos, inl, inr, List, length, true, false}
use Rattle.std.specs.Prelude.{◌⊎◌, ◌^◌, ◌<ℤ◌, slice_get, IsTrue, IsFalse}
use Rattle.std.specs.declared.option.Option.TheVariants.{Some}
use Rattle.std.proofs.lemmas.Int.{ints}
use Rattle.loda_syntax.specs.Programs.{Text, instrs}
use Rattle.loda_semantics.specs.Exec.{Outcome, value, fault, out, Calls}
use Rattle.program_store.specs.declared.published.Published.{Published}
use Rattle.program_store.specs.Store.{Store, published_at, programs_of, checked_at, checked_in, after}
use Rattle.seq_calls.specs.declared.outcomes.Outcome.TheVariants as told_as
use Rattle.seq_calls.specs.Frames.{told, steps_of}
use Rattle.seq_calls.specs.Demand.{Demands, IsReliedOn}
use Rattle.seq_calls.specs.Values.{outcome, Gives, same_int}
use Rattle.seq_calls.proofs.Values.{gives_value, same_int-is, same_int-true}
use Rattle.seq_calls.proofs.Relied.{is_checked}
use Rattle.judge.specs.declared.answer.Answer.{Answer}
use Rattle.judge.specs.declared.answer.Answer.TheVariants.{Accepted, NoGain}
use Rattle.judge.specs.declared.comparing.BothRuns.{BothRuns}
use Rattle.judge.specs.declared.comparing.CheckedRun.{CheckedRun}
use Rattle.judge.specs.declared.comparing.Changed.{Changed}
use Rattle.judge.specs.Passed.{Terms, agree, PassesBelow}
use Rattle.judge.specs.Misses.{got_told}
use Rattle.judge.specs.Sound.{Sound}
use Rattle.judge.specs.Judged.{IsNewChecked, Breaks, CostsMore, Gainless, Passes, Unbroken, NoDearer, IsJudged}
use Rattle.judge.specs.Changes.{runs_at, SameValue, OtherValue, NeedsMoreSteps, SameSteps, Relies, AtOrBefore, IsLeastChange, IsSoundStore}
use Rattle.judge.specs.Replaced.{HasValue, IsBroken, IsCostlier, BringsNothing}
use Rattle.judge.proofs.Values.{true_unless, term_at}
use Rattle.judge.proofs.Misses.{got_same, false_unless}
use Rattle.judge.proofs.Demanded.{relied_runs}
use Rattle.judge.proofs.Keep.{grows}
use Rattle.judge.proofs.OneAnswer.{same_row}
use Rattle.judge.proofs.Fresh.{within_ample}

-- ---- outcomes side by side

abbrev both : Outcome → Outcome → BothRuns
both a b = record { with_old = told a; with_new = told b }

agree_same : (a b : Outcome) → IsTrue (agree a b) → SameValue (both a b)
agree_same (value v n) (value w m) h = sym (same_int-is w v h)
agree_same (value v n) (fault k m) h = absurd (let e : false ≡ true = h in cc)
agree_same (value v n) (out m) h = absurd (let e : false ≡ true = h in cc)
agree_same (fault k n) b h = absurd (let e : false ≡ true = h in cc)
agree_same (out n) b h = absurd (let e : false ≡ true = h in cc)

same_agree : (a b : Outcome) → SameValue (both a b) → IsTrue (agree a b)
same_agree (value v n) (value w m) h = subst (λ (z : ℤ). IsTrue (same_int w z)) (sym h) (same_int-true w)
same_agree (value v n) (fault k m) h = absurd h
same_agree (value v n) (out m) h = absurd h
same_agree (fault k n) b h = absurd h
same_agree (out n) b h = absurd h

breaks_other : (a b : Outcome) → IsFalse (agree a b) → OtherValue (both a b)
breaks_other a b h = λ same. let t : IsTrue (agree a b) = same_agree a b same in let e : false ≡ true = sym h ∙ t in cc

other_breaks : (a b : Outcome) → OtherValue (both a b) → IsFalse (agree a b)
other_breaks a b h = false_unless (agree a b) (λ t. h (agree_same a b t))

costs_more : (a b : Outcome) → SameValue (both a b) → steps_of a < steps_of b → NeedsMoreSteps (both a b)
costs_more (value v n) (value w m) same lt = lt
costs_more (value v n) (fault k m) same lt = absurd same
costs_more (value v n) (out m) same lt = absurd same
costs_more (fault k n) b same lt = absurd same
costs_more (out n) b same lt = absurd same

more_costs : (a b : Outcome) → NeedsMoreSteps (both a b) → steps_of a < steps_of b
more_costs (value v n) (value w m) lt = lt
more_costs (value v n) (fault k m) h = absurd h
more_costs (value v n) (out m) h = absurd h
more_costs (fault k n) b h = absurd h
more_costs (out n) b h = absurd h

steps_same : (a b : Outcome) → SameSteps (both a b) → steps_of a ≡ steps_of b
steps_same (value v n) (value w m) e = e
steps_same (value v n) (fault k m) h = absurd h
steps_same (value v n) (out m) h = absurd h
steps_same (fault k n) b h = absurd h
steps_same (out n) b h = absurd h

same_steps : (a b : Outcome) → SameValue (both a b) → steps_of a ≡ steps_of b → SameSteps (both a b)
same_steps (value v n) (value w m) same e = e
same_steps (value v n) (fault k m) same e = absurd same
same_steps (value v n) (out m) same e = absurd same
same_steps (fault k n) b same e = absurd same
same_steps (out n) b same e = absurd same

-- two values that are the same
same_of : (a b : Outcome) (t : ℤ) (n m : ℕ) → a ≡ value t n → b ≡ value t m → SameValue (both a b)
same_of a b t n m e f = subst (λ (z : Outcome). SameValue (both z b)) (sym e) (subst (λ (z : Outcome). SameValue (both (value t n) z)) (sym f) refl)

told_steps : (o : Outcome) (v : ℤ) (n : ℕ) → told o ≡ told_as.Value v n → n ≡ steps_of o
told_steps (value w m) v n e = let h : told_as.Value w m ≡ told_as.Value v n = e in let f : m ≡ n = cc in sym f
told_steps (fault k m) v n e = absurd (let h : told_as.Fault k m ≡ told_as.Value v n = e in cc)
told_steps (out m) v n e = absurd (let h : told_as.OutOfSteps ≡ told_as.Value v n = e in cc)

told_gives : (o : Outcome) (v : ℤ) (n : ℕ) → told o ≡ told_as.Value v n → Gives o v
told_gives (value w m) v n e = let h : told_as.Value w m ≡ told_as.Value v n = e in let f : w ≡ v = cc in subst (λ (z : ℤ). IsTrue (same_int w z)) f (same_int-true w)
told_gives (fault k m) v n e = absurd (let h : told_as.Fault k m ≡ told_as.Value v n = e in cc)
told_gives (out m) v n e = absurd (let h : told_as.OutOfSteps ≡ told_as.Value v n = e in cc)

not_below_itself : (x : ℤ) → x <ℤ x → ⊥
not_below_itself x l = omega (arith, ints)

not_both : (x y : ℤ) → x <ℤ y → y <ℤ x → ⊥
not_both x y l g = omega (arith, ints)

-- ---- who relies on it

module _ (s : Store) (q : ℕ) where
  relied_on : (r : CheckedRun) (x : ℤ) → Relies s q r x → IsReliedOn s q x
  relied_on r x (inl d) = inr (r.name, r.index, d)
  relied_on r x (inr e) = inl (r.index, e.1, e.2)

  someone : (x : ℤ) → IsReliedOn s q x → (r : CheckedRun) × Relies s q r x
  someone x (inl e) = (record { name = q; index = e.0 }, inr (refl, e.1, e.2))
  someone x (inr d) = (record { name = d.0; index = d.1 }, inl d.2)

-- what changes at an argument that is relied on had a value
pub had_value : (s : Store) (limit q : ℕ) (p : Text) (Kind : BothRuns → Type 0) (c : Changed) → limit < 2 ^ 64 → IsSoundStore s limit → IsLeastChange Kind (runs_at s limit q p) (Relies s q) c → HasValue c.runs.with_old
had_value s limit q p Kind c fits sound h =
    let ran = (relied_runs s sound.0 limit sound.1 (within_ample limit fits) q c.at (relied_on s q c.by c.at h.relied)).0 in
    let told_was : c.runs.with_old ≡ told (outcome (programs_of s) q c.at limit) = ap (λ (r : BothRuns). r.with_old) h.runs_are in
    let old : outcome (programs_of s) q c.at limit ≡ value ran.value_of ran.used = ap (λ (z : Outcome × Calls). z.0) ran.is in
    (ran.value_of, ran.used, told_was ∙ ap told old)

module _ (s : Store) (limit q : ℕ) (p : Text) (checked : ℕ) (e : Published) (there : published_at s q ≡ Some e) (terms : Terms) (row : List ℤ) (sound : Sound s terms limit) (passes : Passes s terms limit q p row checked) where
  gives_checked : PassesBelow (after s q p) row q limit checked
  gives_checked = by_case passes.checks
    where
      by_case : IsNewChecked (after s q p) row q limit (checked_at s q) checked → PassesBelow (after s q p) row q limit checked
      by_case (inl all) = all.0
      by_case (inr cut) = cut.0.3

  no_less : checked_at s q ≤ checked
  no_less = grows s terms limit q row checked (after s q p) sound passes.enters.listed passes.checks

  -- at the arguments that were checked the new program has the old value
  checked_same : (i : ℕ) → i < checked_at s q → SameValue (runs_at s limit q p (pos i))
  checked_same i lt =
      let known = is_checked (published_at s q) i lt in
      let each = sound.each q known.0 known.1 in
      let term = term_at each.0 i (let h = each.3 in let l = known.2 in omega (arith, h, l)) in
      let rows : each.0 ≡ row = same_row terms q each.0 row each.1 passes.enters.listed in
      let in_row : slice_get row i ≡ Some term.0 = subst (λ (r : List ℤ). slice_get r i ≡ Some term.0) rows term.1 in
      let le = no_less in
      let new = gives_value (outcome (after s q p) q (pos i) limit) term.0 (gives_checked i term.0 (omega (arith, le, lt)) in_row) in
      let old = gives_value (outcome (programs_of s) q (pos i) limit) term.0 (each.4 i term.0 known.2 term.1) in
      same_of (outcome (programs_of s) q (pos i) limit) (outcome (after s q p) q (pos i) limit) term.0 old.0 new.0 old.1 new.1

  -- so where the value is another one, a checked run demands the argument
  demands : (r : CheckedRun) (x : ℤ) → Relies s q r x → OtherValue (runs_at s limit q p x) → Demands s r.name r.index q x
  demands r x (inl d) other = d
  demands r x (inr k) other = absurd (other (subst (λ (z : ℤ). SameValue (runs_at s limit q p z)) (sym k.2) (checked_same r.index k.1)))

  breaks_of : (x : ℤ) → Breaks s limit q p x → OtherValue (runs_at s limit q p x)
  breaks_of x b = breaks_other (outcome (programs_of s) q x limit) (outcome (after s q p) q x limit) b.1

  pub judged_broken : (c : Changed) (a : Answer) → IsLeastChange OtherValue (runs_at s limit q p) (Relies s q) c → IsBroken c a → IsJudged s terms limit q p a
  judged_broken c a h is = subst (λ (z : Answer). IsJudged s terms limit q p z) (sym is.3) (
    row,
    checked,
    passes,
    (e, there),
    (((c.by.name, c.by.index, demanded), other_breaks (outcome (programs_of s) q c.at limit) (outcome (after s q p) q c.at limit) h.changes), none_less),
    (demanded, first),
    told_gives (outcome (programs_of s) q c.at limit) is.0 is.1 (sym told_was ∙ is.2),
    ap got_told told_now ∙ got_same (outcome (after s q p) q c.at limit),
  )
    where
      demanded : Demands s c.by.name c.by.index q c.at
      demanded = demands c.by c.at h.relied h.changes

      told_was : c.runs.with_old ≡ told (outcome (programs_of s) q c.at limit)
      told_was = ap (λ (r : BothRuns). r.with_old) h.runs_are

      told_now : c.runs.with_new ≡ told (outcome (after s q p) q c.at limit)
      told_now = ap (λ (r : BothRuns). r.with_new) h.runs_are

      none_less : (y : ℤ) → y <ℤ c.at → Breaks s limit q p y → ⊥
      none_less y lt b = by_case (h.least (record { name = b.0.0; index = b.0.1 }) y (inl b.0.2) (breaks_of y b))
        where
          by_case : (c.at <ℤ y) ⊎ ((c.at ≡ y) × AtOrBefore c.by (record { name = b.0.0; index = b.0.1 })) → ⊥
          by_case (inl l) = not_both y c.at lt l
          by_case (inr k) = not_below_itself y (subst (λ (z : ℤ). y <ℤ z) k.0 lt)

      first : (d i : ℕ) → Demands s d i q c.at → (c.by.name < d) ⊎ ((c.by.name ≡ d) × (c.by.index ≤ i))
      first d i k = by_case (h.least (record { name = d; index = i }) c.at (inl k) h.changes)
        where
          by_case : (c.at <ℤ c.at) ⊎ ((c.at ≡ c.at) × AtOrBefore c.by (record { name = d; index = i })) → (c.by.name < d) ⊎ ((c.by.name ≡ d) × (c.by.index ≤ i))
          by_case (inl l) = absurd (not_below_itself c.at l)
          by_case (inr m) = m.1

  module _ (none : (r : CheckedRun) (x : ℤ) → Relies s q r x → OtherValue (runs_at s limit q p x) → ⊥) where
    unbroken : Unbroken s terms limit q p row checked
    unbroken = record { passes = passes; unbroken = λ published x b. none (record { name = b.0.0; index = b.0.1 }) x (inl b.0.2) (breaks_of x b) }

    all_same : (r : CheckedRun) (x : ℤ) → Relies s q r x → SameValue (runs_at s limit q p x)
    all_same r x k =
        let old = outcome (programs_of s) q x limit in
        let new = outcome (after s q p) q x limit in
        agree_same old new (true_unless (agree old new) (λ f. none r x k (breaks_other old new f)))

    more_of : (x : ℤ) → CostsMore s limit q p x → (r : CheckedRun) × Relies s q r x × NeedsMoreSteps (runs_at s limit q p x)
    more_of x k = let who = someone s q x k.0 in (who.0, who.1, costs_more (outcome (programs_of s) q x limit) (outcome (after s q p) q x limit) (all_same who.0 x who.1) k.1)

    pub judged_costlier : (c : Changed) (a : Answer) → IsLeastChange NeedsMoreSteps (runs_at s limit q p) (Relies s q) c → IsCostlier c a → IsJudged s terms limit q p a
    judged_costlier c a h is = subst (λ (z : Answer). IsJudged s terms limit q p z) (sym is.6) (
      row,
      checked,
      unbroken,
      (e, there),
      ((relied_on s q c.by c.at h.relied, more_costs (outcome (programs_of s) q c.at limit) (outcome (after s q p) q c.at limit) h.changes), none_less),
      told_steps (outcome (programs_of s) q c.at limit) is.0 is.2 (sym (ap (λ (r : BothRuns). r.with_old) h.runs_are) ∙ is.4),
      told_steps (outcome (after s q p) q c.at limit) is.1 is.3 (sym (ap (λ (r : BothRuns). r.with_new) h.runs_are) ∙ is.5),
    )
      where
        none_less : (y : ℤ) → y <ℤ c.at → CostsMore s limit q p y → ⊥
        none_less y lt k = by_case (h.least who.0 y who.1 who.2)
          where
            who : (r : CheckedRun) × Relies s q r y × NeedsMoreSteps (runs_at s limit q p y)
            who = more_of y k

            by_case : (c.at <ℤ y) ⊎ ((c.at ≡ y) × AtOrBefore c.by who.0) → ⊥
            by_case (inl l) = not_both y c.at lt l
            by_case (inr m) = not_below_itself y (subst (λ (z : ℤ). y <ℤ z) m.0 lt)

    module _ (no_more : (r : CheckedRun) (x : ℤ) → Relies s q r x → NeedsMoreSteps (runs_at s limit q p x) → ⊥) where
      no_dearer : NoDearer s terms limit q p row checked
      no_dearer = record { unbroken = unbroken; no_dearer = λ published x k. let who = more_of x k in no_more who.0 x who.1 who.2 }

      count_here : checked_at s q ≡ e.checked
      count_here = ap checked_in there

      entry_same : (f : Published) → published_at s q ≡ Some f → f ≡ e
      entry_same f at = let g : Some f ≡ Some e = sym at ∙ there in cc

      pub judged_no_gain : BringsNothing s limit q p e checked → IsJudged s terms limit q p NoGain
      judged_no_gain h = (row, checked, no_dearer, (e, there), (h.count ∙ sym count_here, same, longer))
        where
          same : (i : ℕ) → i < checked_at s q → steps_of (outcome (programs_of s) q (pos i) limit) ≡ steps_of (outcome (after s q p) q (pos i) limit)
          same i lt = steps_same (outcome (programs_of s) q (pos i) limit) (outcome (after s q p) q (pos i) limit) (h.steps i (let g = h.count in let k = count_here in omega (arith, lt, g, k)))

          longer : (f : Published) → published_at s q ≡ Some f → length (instrs f.program) ≤ length (instrs p)
          longer f at = subst (λ (z : Published). length (instrs z.program) ≤ length (instrs p)) (sym (entry_same f at)) h.size

      pub judged_gain : (BringsNothing s limit q p e checked → ⊥) → IsJudged s terms limit q p (Accepted checked)
      judged_gain not = (row, no_dearer, λ published gainless. not (brings gainless))
        where
          brings : Gainless s limit q p checked → BringsNothing s limit q p e checked
          brings g = record {
            count = g.0 ∙ count_here;
            size = g.2 e there;
            steps = λ i lt.
                let within : i < checked_at s q = (let k = g.0 in omega (arith, lt, k)) in
                same_steps (outcome (programs_of s) q (pos i) limit) (outcome (after s q p) q (pos i) limit) (checked_same i within) (g.1 i within);
          }
