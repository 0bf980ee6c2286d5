-- The keep law: an accepted proposal takes nothing from anybody, and the next store is sound.
use Rattle.std.proofs.Common.{ℕ, suc, ◌+◌, ◌-◌, ◌<◌, ◌≤◌, ◌≡◌, ◌≢◌, refl, sym, ap, subst, ◌∙◌, arith, ℤ, pos, inl, inr, List, length}
use Rattle.std.specs.Prelude.{◌⊎◌, slice_get}
use Rattle.std.specs.declared.option.Option.{Option}
use Rattle.std.specs.declared.option.Option.TheVariants.{Some, None}
use Rattle.std.specs.Option.{option_map}
use Rattle.loda_syntax.specs.Programs.{Text}
use Rattle.loda_semantics.specs.declared.kinds.FaultKind.TheVariants.{Missing}
use Rattle.loda_semantics.specs.Exec.{Outcome, value, fault, Calls, Library, run_name, run_deep}
use Rattle.loda_semantics.proofs.Laws.{used_within}
use Rattle.loda_semantics.proofs.Keeps.{Cheaper, keeps_deep}
use Rattle.program_store.specs.declared.published.Published.{Published}
use Rattle.program_store.specs.Store.{Store, published_at, programs_of, checked_at, checked_in, put_in, after, IsPublished}
use Rattle.program_store.specs.Graph.{NoCycle}
use Rattle.seq_calls.specs.Demand.{ample, InDem, IsReliedOn}
use Rattle.seq_calls.specs.Values.{outcome, Gives, KeepsValue}
use Rattle.seq_calls.specs.Frames.{steps_of}
use Rattle.seq_calls.proofs.Values.{gives_value, gives_this, gives_same}
use Rattle.seq_calls.specs.Runs.{HasRun}
use Rattle.seq_calls.proofs.Relied.{is_checked}
use Rattle.seq_calls.proofs.Bounded.{with_steps}
use Rattle.seq_calls.proofs.Stay.{all_traced}
use Rattle.program_store.proofs.Puts.{put_here, put_elsewhere, with_here, with_elsewhere, next_programs}
use Rattle.judge.specs.Passed.{Terms, PassesBelow}
use Rattle.judge.specs.Sound.{Sound, IsEntrySound}
use Rattle.judge.specs.Judged.{IsNewChecked, Passes, NoDearer}
use Rattle.judge.specs.Kept.{LosesNothing, HasEight, Keeps}
use Rattle.judge.proofs.Values.{decide, true_unless, agree_gives, term_at, place_within}
use Rattle.judge.proofs.Demanded.{run_of, demanded_runs, relied_runs}
use Rattle.judge.proofs.NewCycles.{no_new_cycle}

-- ---- what was relied on

-- a name with a value is published
has_program : (s : Store) (q : ℕ) (o : Option Published) (x : ℤ) (n d : ℕ) (v : ℤ) (used : ℕ) (c : Calls) → published_at s q ≡ o
    → run_deep (programs_of s) d (option_map (λ (e : Published). e.program) o) x n ≡ (value v used, c) → IsPublished s q
has_program s q None x n d v used c there h = absurd (let z : fault Missing 0 ≡ value v used = ap (λ (p : Outcome × Calls). p.0) h in cc)
has_program s q (Some e) x n d v used c there h = (e, there)

-- the checked count doesn't fall
pub grows : (s : Store) (terms : Terms) (limit q : ℕ) (row : List ℤ) (checked : ℕ) (lib : Library) → Sound s terms limit → terms q ≡ Some row → IsNewChecked lib row q limit (checked_at s q) checked → checked_at s q ≤ checked
grows s terms limit q row checked lib sound listed (inl all) = by_entry (published_at s q) refl
  where
    same_row : (r : List ℤ) → terms q ≡ Some r → length r ≡ length row
    same_row r e = let h : Some r ≡ Some row = sym e ∙ listed in let g : r ≡ row = cc in ap length g

    by_entry : (o : Option Published) → published_at s q ≡ o → checked_in o ≤ checked
    by_entry None e = omega arith
    by_entry (Some e) there =
        let each = sound.each q e there in
        let l = same_row each.0 each.1 in
        let u = each.3 in
        let w = all.1 in
        omega (arith, l, u, w)
grows s terms limit q row checked lib sound listed (inr cut) = let h = cut.2 in omega (arith, h)

not_more : (a b : ℕ) → (a < b → ⊥) → b ≤ a
not_more a b h = grind arith

module _ (s : Store) (terms : Terms) (limit q : ℕ) (p : Text) (checked : ℕ) (row : List ℤ) (sound : Sound s terms limit) (fits : limit ≤ ample) (judged : NoDearer s terms limit q p row checked) where
  passes : Passes s terms limit q p row checked
  passes = judged.unbroken.passes

  no_less : checked_at s q ≤ checked
  unfolding passes
  no_less = grows s terms limit q row checked (after s q p) sound passes.enters.listed passes.checks

  -- the checked terms are given by the proposed program
  gives_checked : PassesBelow (after s q p) row q limit checked
  unfolding passes
  gives_checked = by_case passes.checks
    where
      by_case : IsNewChecked (after s q p) row q limit (checked_at s q) checked → PassesBelow (after s q p) row q limit checked
      by_case (inl all) = all.0
      by_case (inr cut) = cut.0.3

  -- the proposed program has the old value at an argument that is relied on
  same_value : (x : ℤ) → IsReliedOn s q x → IsPublished s q → (ran : HasRun (programs_of s) limit q x) → Gives (outcome (after s q p) q x limit) ran.value_of
  same_value x (inr d) there ran =
      agree_gives (outcome (programs_of s) q x limit) (outcome (after s q p) q x limit) ran.value_of ran.used (ap (λ (z : Outcome × Calls). z.0) ran.is)
      (true_unless _ (λ f. judged.unbroken.unbroken there x (d, f)))
  same_value x (inl c) there ran =
      let known = is_checked (published_at s q) c.0 c.1 in
      let each = sound.each q known.0 known.1 in
      let term = term_at each.0 c.0 (let h = each.3 in let l = known.2 in omega (arith, h, l)) in
      let now_row : Some each.0 ≡ Some row = sym each.1 ∙ passes_listed in
      let rows : each.0 ≡ row = cc in
      let in_row : slice_get row c.0 ≡ Some term.0 = subst (λ (r : List ℤ). slice_get r c.0 ≡ Some term.0) rows term.1 in
      let new : Gives (outcome (after s q p) q (pos c.0) limit) term.0 = gives_checked c.0 term.0 (let h = no_less in let l = c.1 in omega (arith, h, l)) in_row in
      let old : Gives (outcome (programs_of s) q (pos c.0) limit) term.0 = each.4 c.0 term.0 known.2 term.1 in
      let old_x : Gives (outcome (programs_of s) q x limit) term.0 = subst (λ (z : ℤ). Gives (outcome (programs_of s) q z limit) term.0) (sym c.2) old in
      let is : term.0 ≡ ran.value_of = gives_same (outcome (programs_of s) q x limit) ran.value_of term.0 ran.used (ap (λ (z : Outcome × Calls). z.0) ran.is) old_x in
      subst (λ (t : ℤ). Gives (outcome (after s q p) q x limit) t) is (subst (λ (z : ℤ). Gives (outcome (after s q p) q z limit) term.0) (sym c.2) new)
    where
      passes_listed : terms q ≡ Some row
      passes_listed = judged.unbroken.passes.enters.listed

  -- and takes no more steps for it
  own : (x : ℤ) → IsReliedOn s q x → (ran : HasRun (programs_of s) limit q x) → (u2 : ℕ) × (outcome (after s q p) q x limit ≡ value ran.value_of u2) × (u2 ≤ ran.used)
  own x relied ran =
      let there : IsPublished s q = has_program s q (published_at s q) x limit (suc limit) ran.value_of ran.used ran.calls refl ran.is in
      let g = gives_value (outcome (after s q p) q x limit) ran.value_of (same_value x relied there ran) in
      let old : outcome (programs_of s) q x limit ≡ value ran.value_of ran.used = ap (λ (z : Outcome × Calls). z.0) ran.is in
      let cost : (ran.used < g.0) → ⊥ = λ l. judged.no_dearer there x (relied, subst (λ (o : Outcome). steps_of o < steps_of (outcome (after s q p) q x limit)) (sym old) (subst (λ (o : Outcome). ran.used < steps_of o) (sym g.1) l)) in
      (g.0, g.1, not_more ran.used g.0 cost)

  -- whenever the old program has a value at a demanded argument, so has the proposed one, with no more steps
  cheaper : (x : ℤ) → InDem s q x → Cheaper (programs_of s) (after s q p) q x
  cheaper x d = λ n v u1 c1 h.
      let ran = demanded_runs s terms limit sound fits q x d in
      let mine = own x (inr d) ran in
      let both : run_name (programs_of s) q x (limit + n) ≡ (value v u1, c1) = with_steps (programs_of s) q x v n (limit + n) u1 c1 h (let w = used_within (programs_of s) (suc n) (programs_of s q) x n v u1 c1 h in omega (arith, w)) in
      let full : run_name (programs_of s) q x (limit + n) ≡ (value ran.value_of ran.used, ran.calls) = with_steps (programs_of s) q x ran.value_of limit (limit + n) ran.used ran.calls ran.is (let w = used_within (programs_of s) (suc limit) (programs_of s q) x limit ran.value_of ran.used ran.calls ran.is in omega (arith, w)) in
      let e : value ran.value_of ran.used ≡ value v u1 = ap (λ (z : Outcome × Calls). z.0) (sym full ∙ both) in
      let ev : ran.value_of ≡ v = cc in
      let eu : ran.used ≡ u1 = cc in
      let new = run_of (after s q p) limit q x ran.value_of mine.0 mine.1 in
      let new_is : run_name (after s q p) q x limit ≡ (value v mine.0, (run_name (after s q p) q x limit).1) = ap (λ (z : Outcome). (z, (run_name (after s q p) q x limit).1)) (mine.1 ∙ ap (λ (z : ℤ). value z mine.0) ev) in
      (mine.0, (run_name (after s q p) q x limit).1, (let l = mine.2 in omega (arith, l, eu)), λ m le. with_steps (after s q p) q x v limit m mine.0 _ new_is le)

  -- Each argument that is relied on keeps its value, with no more steps.
  keeps_value : (r : ℕ) (x : ℤ) → IsReliedOn s r x → KeepsValue (programs_of s) (after s q p) limit r x
  keeps_value r x relied = by_name (decide r q)
    where
      made : (ran : HasRun (programs_of s) limit r x) (u2 : ℕ) → outcome (after s q p) r x limit ≡ value ran.value_of u2 → u2 ≤ ran.used → KeepsValue (programs_of s) (after s q p) limit r x
      made ran u2 new le =
          let old : outcome (programs_of s) r x limit ≡ value ran.value_of ran.used = ap (λ (z : Outcome × Calls). z.0) ran.is in
          record {
            value = ran.value_of;
            was = gives_this _ _ ran.used old;
            now = gives_this _ _ u2 new;
            no_dearer = (let a : steps_of (outcome (programs_of s) r x limit) ≡ ran.used = ap steps_of old in let b : steps_of (outcome (after s q p) r x limit) ≡ u2 = ap steps_of new in omega (arith, a, b, le));
          }

      by_name : (r ≡ q) ⊎ (r ≢ q) → KeepsValue (programs_of s) (after s q p) limit r x
      by_name (inl same) =
          let relied_q : IsReliedOn s q x = subst (λ (z : ℕ). IsReliedOn s z x) same relied in
          let ran = (relied_runs s terms limit sound fits r x relied).0 in
          let ran_q : HasRun (programs_of s) limit q x = subst (λ (z : ℕ). HasRun (programs_of s) limit z x) same ran in
          let mine = own x relied_q ran_q in
          subst (λ (z : ℕ). KeepsValue (programs_of s) (after s q p) limit z x) (sym same) (made_q ran_q mine.0 mine.1 mine.2)
        where
          made_q : (ran : HasRun (programs_of s) limit q x) (u2 : ℕ) → outcome (after s q p) q x limit ≡ value ran.value_of u2 → u2 ≤ ran.used → KeepsValue (programs_of s) (after s q p) limit q x
          made_q ran u2 new le =
              let old : outcome (programs_of s) q x limit ≡ value ran.value_of ran.used = ap (λ (z : Outcome × Calls). z.0) ran.is in
              record {
                value = ran.value_of;
                was = gives_this _ _ ran.used old;
                now = gives_this _ _ u2 new;
                no_dearer = (let a : steps_of (outcome (programs_of s) q x limit) ≡ ran.used = ap steps_of old in let b : steps_of (outcome (after s q p) q x limit) ≡ u2 = ap steps_of new in omega (arith, a, b, le));
              }
      by_name (inr other) =
          let both = relied_runs s terms limit sound fits r x relied in
          let ran = both.0 in
          let kept = keeps_deep (programs_of s) (after s q p) q (λ n ne. with_elsewhere (programs_of s) q p n ne) (InDem s q) cheaper
          (suc limit) (suc limit) (programs_of s r) x limit limit ran.value_of ran.used ran.calls (omega arith) (omega arith) ran.is
          (all_traced (λ n y. n ≡ q → InDem s q y) ran.calls (λ n y t same. subst (λ (z : ℕ). InDem s z y) same (both.1 n y t))) in
          let there : run_name (after s q p) r x limit ≡ (value ran.value_of kept.0, kept.1) = ap (λ (o : Option Text). run_deep (after s q p) (suc limit) o x limit) (with_elsewhere (programs_of s) q p r other) ∙ kept.2 in
          made ran kept.0 (ap (λ (z : Outcome × Calls). z.0) there) kept.3

  -- no checked count falls
  counts_kept : (r : ℕ) → checked_at s r ≤ checked_at (put_in s q p checked) r
  counts_kept r = by_name (decide r q)
    where
      by_name : (r ≡ q) ⊎ (r ≢ q) → checked_at s r ≤ checked_at (put_in s q p checked) r
      by_name (inl same) = subst (λ (z : ℕ). checked_at s z ≤ checked_at (put_in s q p checked) z) (sym same) (let e : checked_at (put_in s q p checked) q ≡ checked = ap checked_in (put_here s q p checked) in let h = no_less in omega (arith, e, h))
      by_name (inr other) = let e : checked_at (put_in s q p checked) r ≡ checked_at s r = ap checked_in (put_elsewhere s q p checked r other) in omega (arith, e)

  loses_nothing : LosesNothing limit s (put_in s q p checked)
  loses_nothing = record {
    checked = counts_kept;
    values = λ r x relied. subst (λ (lib : Library). KeepsValue (programs_of s) lib limit r x) (sym (next_programs s q p checked)) (keeps_value r x relied);
  }

  -- each entry gives its checked terms in the next store
  module _ (eight : HasEight terms) where
    new_entry : IsEntrySound (put_in s q p checked) terms limit q (record { program = p; checked = checked })
    new_entry = (row, listed, bounds.0, bounds.1, subst (λ (lib : Library). PassesBelow lib row q limit checked) (sym (next_programs s q p checked)) gives_checked)
      where
        listed : terms q ≡ Some row
        listed = judged.unbroken.passes.enters.listed

        by_case : IsNewChecked (after s q p) row q limit (checked_at s q) checked → (8 ≤ checked) × (checked ≤ length row)
        by_case (inl all) = (let h = all.1 in let l = eight q row listed in omega (arith, h, l), let h = all.1 in omega (arith, h))
        by_case (inr cut) = (let h = cut.2 in omega (arith, h), let w = place_within row checked cut.0.0 cut.0.1 in omega (arith, w))

        bounds : (8 ≤ checked) × (checked ≤ length row)
        bounds = by_case judged.unbroken.passes.checks

    old_entry : (r : ℕ) (e : Published) → r ≢ q → published_at s r ≡ Some e → IsEntrySound (put_in s q p checked) terms limit r e
    old_entry r e other there =
        let each = sound.each r e there in
        let old : PassesBelow (after s q p) each.0 r limit e.checked = λ i t lt is.
        let relied : IsReliedOn s r (pos i) = inl (i, subst (λ (o : Option Published). i < checked_in o) (sym there) lt, refl) in
        let kept = keeps_value r (pos i) relied in
        let was = gives_value (outcome (programs_of s) r (pos i) limit) kept.value kept.was in
        let same : t ≡ kept.value = gives_same (outcome (programs_of s) r (pos i) limit) kept.value t was.0 was.1 (each.4 i t lt is) in
        subst (λ (z : ℤ). Gives (outcome (after s q p) r (pos i) limit) z) (sym same) kept.now in
        (each.0, each.1, each.2, each.3, subst (λ (lib : Library). PassesBelow lib each.0 r limit e.checked) (sym (next_programs s q p checked)) old)

    each_entry : (r : ℕ) (e : Published) → published_at (put_in s q p checked) r ≡ Some e → IsEntrySound (put_in s q p checked) terms limit r e
    each_entry r e there = by_name (decide r q)
      where
        by_name : (r ≡ q) ⊎ (r ≢ q) → IsEntrySound (put_in s q p checked) terms limit r e
        by_name (inl same) =
            let at_q : published_at (put_in s q p checked) q ≡ Some e = subst (λ (z : ℕ). published_at (put_in s q p checked) z ≡ Some e) same there in
            let eq : Some e ≡ Some (record { program = p; checked = checked }) = sym at_q ∙ put_here s q p checked in
            let is : e ≡ record { program = p; checked = checked } = cc in
            subst (λ (z : ℕ). IsEntrySound (put_in s q p checked) terms limit z e) (sym same) (subst (λ (f : Published). IsEntrySound (put_in s q p checked) terms limit q f) (sym is) new_entry)
        by_name (inr other) = old_entry r e other (sym (put_elsewhere s q p checked r other) ∙ there)

    next_sound : Sound (put_in s q p checked) terms limit
    next_sound = record {
      acyclic = subst (λ (lib : Library). NoCycle lib) (sym (next_programs s q p checked)) (no_new_cycle (programs_of s) (after s q p) q p (λ n ne. with_elsewhere (programs_of s) q p n ne) (with_here (programs_of s) q p) judged.unbroken.passes.enters.acyclic sound.acyclic);
      each = each_entry;
    }

pub keep : (s : Store) (terms : Terms) (limit q : ℕ) (p : Text) (checked : ℕ) → Keeps s terms limit q p checked
keep s terms limit q p checked = λ fits eight sound judged.
    (next_sound s terms limit q p checked judged.0 sound fits judged.1 eight, loses_nothing s terms limit q p checked judged.0 sound fits judged.1)
