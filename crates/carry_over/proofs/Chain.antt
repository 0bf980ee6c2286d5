-- Over a list of accepted entries: what none of them changed, and is relied on after each, keeps its direct calls.
use Rattle.std.proofs.Common.{ℕ, ◌-◌, ◌<◌, ◌≤◌, ◌≡◌, refl, sym, ap, subst, ◌∙◌, arith, ℤ, pos, inl, inr, List, [], ◌∷◌, Contains}
use Rattle.loda_semantics.specs.declared.kinds.Pair.{Pair}
use Rattle.loda_semantics.specs.Exec.{value, Calls, run_name}
use Rattle.program_store.specs.Store.{Store, published_at, programs_of, checked_at, checked_in}
use Rattle.seq_calls.specs.Frames.{pair, direct, steps_below}
use Rattle.seq_calls.specs.Demand.{InTrace, ample, IsReliedOn}
use Rattle.seq_calls.specs.Runs.{HasRun, KeepsRun}
use Rattle.judge.specs.Passed.{Terms}
use Rattle.judge.specs.Sound.{Sound}
use Rattle.judge.specs.Kept.{HasEight}
use Rattle.judge.proofs.Demanded.{relied_runs}
use Rattle.demand_table.proofs.Live.{direct_traced}
use Rattle.carry_over.proofs.Puts.{Put, after_put, ComesByPuts, IsApart}
use Rattle.carry_over.proofs.Steady.{same_run, IsSteady, next_sound, same_entry, step_keeps}

module _ (terms : Terms) (limit : ℕ) (fits : limit ≤ ample) (eight : HasEight terms) where
  -- each store on the way is sound
  pub comes_sound : (s : Store) (es : List Put) (s2 : Store) → Sound s terms limit → ComesByPuts terms limit s es s2 → Sound s2 terms limit
  comes_sound s [] s2 sound comes = subst (λ (z : Store). Sound z terms limit) (sym comes) sound
  comes_sound s (e ∷ es) s2 sound comes = comes_sound (after_put s e) es s2 (next_sound terms limit fits eight s e sound comes.0) comes.1

  -- what no entry has the name of is as it was
  pub apart_same : (s : Store) (es : List Put) (s2 : Store) → Sound s terms limit → ComesByPuts terms limit s es s2 → (r : ℕ) → IsApart r es → published_at s2 r ≡ published_at s r
  apart_same s [] s2 sound comes r apart = ap (λ (z : Store). published_at z r) comes
  apart_same s (e ∷ es) s2 sound comes r apart =
      apart_same (after_put s e) es s2 (next_sound terms limit fits eight s e sound comes.0) comes.1 r apart.1
      ∙ same_entry terms limit fits eight s e sound comes.0 r apart.0

  -- a checked argument of such a name is relied on throughout
  pub checked_steady : (s : Store) (es : List Put) (s2 : Store) → Sound s terms limit → ComesByPuts terms limit s es s2 → (r i : ℕ) → IsApart r es → i < checked_at s r → IsSteady s es r (pos i)
  checked_steady s [] s2 sound comes r i apart lt = inl (i, lt, refl)
  checked_steady s (e ∷ es) s2 sound comes r i apart lt =
      let same : checked_at (after_put s e) r ≡ checked_at s r = ap checked_in (same_entry terms limit fits eight s e sound comes.0 r apart.0) in
      (inl (i, lt, refl), checked_steady (after_put s e) es s2 (next_sound terms limit fits eight s e sound comes.0) comes.1 r i apart.1 (subst (λ (n : ℕ). i < n) (sym same) lt))

  -- what keeps its calls, each of them relied on throughout
  abbrev pub KeepsAll : Store → List Put → Store → ℕ → ℤ → Type 0
  KeepsAll s es s2 r y =
      (k : KeepsRun (programs_of s) (programs_of s2) limit r y) × ((z : ℕ) (w : ℤ) → Contains (direct k.calls) (pair z w) → IsSteady s es z w)

  -- what is relied on in the store calls what is relied on there
  calls_relied : (s : Store) → Sound s terms limit → (r : ℕ) (y : ℤ) → IsReliedOn s r y → (v : ℤ) (used : ℕ) (c : Calls) → run_name (programs_of s) r y limit ≡ (value v used, c)
      → (z : ℕ) (w : ℤ) → Contains (direct c) (pair z w) → IsReliedOn s z w
  calls_relied s sound r y relied v used c is z w h =
      let both = relied_runs s terms limit sound fits r y relied in
      let same = same_run (programs_of s) r y v both.0.value_of limit used both.0.used c both.0.calls is both.0.is in
      inr (both.1 z w (subst (λ (d : Calls). InTrace z w d) same.2 (direct_traced c (pair z w) h)))

  pub steady_keeps : (s : Store) (es : List Put) (s2 : Store) → Sound s terms limit → ComesByPuts terms limit s es s2 → (r : ℕ) (y : ℤ) → IsApart r es → IsSteady s es r y → KeepsAll s es s2 r y
  steady_keeps s [] s2 sound comes r y apart steady = subst (λ (z : Store). KeepsAll s [] z r y) (sym comes) (still, calls_relied s sound r y steady ran.value_of ran.used ran.calls ran.is)
    where
      ran : HasRun (programs_of s) limit r y
      ran = (relied_runs s terms limit sound fits r y steady).0

      still : KeepsRun (programs_of s) (programs_of s) limit r y
      still = record {
        value_of = ran.value_of;
        used = ran.used;
        calls = ran.calls;
        less = ran.used;
        now = ran.calls;
        was = ran.is;
        is = ran.is;
        no_dearer = omega arith;
        same_calls = refl;
        same_own = refl;
      }
  steady_keeps s (e ∷ es) s2 sound comes r y apart steady =
      joined
      (step_keeps terms limit fits eight s e sound comes.0 r y apart.0 steady.0)
      (steady_keeps (after_put s e) es s2 (next_sound terms limit fits eight s e sound comes.0) comes.1 r y apart.1 steady.1)
    where
      joined : KeepsRun (programs_of s) (programs_of (after_put s e)) limit r y → KeepsAll (after_put s e) es s2 r y → KeepsAll s (e ∷ es) s2 r y
      joined k rest =
          let l = rest.0 in
          let same = same_run (programs_of (after_put s e)) r y k.value_of l.value_of limit k.less l.used k.now l.calls k.is l.was in
          let calls_same : direct l.calls ≡ direct k.calls = ap direct (sym same.2) ∙ k.same_calls in
          let own_same : l.used - steps_below l.calls ≡ k.less - steps_below k.now = ap (λ (n : ℕ). n - steps_below l.calls) (sym same.1) ∙ ap (λ (c : Calls). k.less - steps_below c) (sym same.2) in
          let le1 = k.no_dearer in
          let le2 = l.no_dearer in
          let eq = same.1 in (
            record {
              value_of = k.value_of;
              used = k.used;
              calls = k.calls;
              less = l.less;
              now = l.now;
              was = k.was;
              is = l.is ∙ ap (λ (z : ℤ). (value z l.less, l.now)) (sym same.0);
              no_dearer = omega (arith, le1, le2, eq);
              same_calls = l.same_calls ∙ calls_same;
              same_own = l.same_own ∙ own_same ∙ k.same_own;
            },
            λ z w h. (
              calls_relied s sound r y steady.0 k.value_of k.used k.calls k.was z w h,
              rest.1 z w (subst (λ (ps : List Pair). Contains ps (pair z w)) (sym calls_same) h),
            ),
          )
