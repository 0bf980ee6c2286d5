-- Which checked runs demand an argument of a name is the same in both stores, where no entry has a name above it.
use Rattle.std.proofs.Common.{ℕ, zero, suc, ◌<◌, ◌≤◌, ◌≡◌, ◌≢◌, refl, sym, ap, subst, ◌∙◌, arith, ℤ, pos, inl, inr, List, [], ◌∷◌, Contains}
use Rattle.std.specs.Prelude.{◌⊎◌, ◌↔◌}
use Rattle.std.specs.declared.option.Option.{Option}
use Rattle.std.specs.declared.option.Option.TheVariants.{Some, None}
use Rattle.loda_syntax.specs.Programs.{Text}
use Rattle.loda_semantics.specs.declared.kinds.Pair.{Pair}
use Rattle.loda_semantics.specs.Exec.{Outcome, value, Calls, none, call, Library, run_deep, run_name}
use Rattle.program_store.specs.declared.published.Published.{Published}
use Rattle.program_store.specs.Store.{Store, published_at, programs_of, checked_at, checked_in}
use Rattle.call_graph.specs.Closure.{ReachesByCall}
use Rattle.seq_calls.specs.Frames.{pair, direct}
use Rattle.seq_calls.specs.Demand.{InTrace, ample, Demands}
use Rattle.judge.specs.Passed.{Terms}
use Rattle.judge.specs.Sound.{Sound}
use Rattle.judge.specs.Kept.{HasEight}
use Rattle.judge.proofs.Values.{decide}
use Rattle.seq_calls.proofs.Records.{AreAnswered, answered_name}
use Rattle.judge.proofs.Demanded.{with_ample}
use Rattle.judge.proofs.Traces.{traced_reach}
use Rattle.carry_over.proofs.Puts.{Put, ComesByPuts, IsApart}
use Rattle.carry_over.proofs.Steady.{same_run, IsSteady}
use Rattle.carry_over.proofs.Chain.{comes_sound, apart_same, checked_steady, steady_keeps}

-- either no entry has the name, or one has
decide_apart : (r : ℕ) (es : List Put) → IsApart r es ⊎ (IsApart r es → ⊥)
decide_apart r [] = inl tt
decide_apart r (e ∷ es) = by_both (decide r e.name) (decide_apart r es)
  where
    by_both : (r ≡ e.name) ⊎ (r ≢ e.name) → IsApart r es ⊎ (IsApart r es → ⊥) → IsApart r (e ∷ es) ⊎ (IsApart r (e ∷ es) → ⊥)
    by_both (inl same) rest = inr (λ h. h.0 same)
    by_both (inr other) (inl apart) = inl (other, apart)
    by_both (inr other) (inr not) = inr (λ h. not h.1)

-- what a run of a name calls, at any depth, its program reaches
name_reaches : (lib : Library) (r q : ℕ) (y x : ℤ) (n : ℕ) → InTrace q x (run_name lib r y n).1 → ReachesByCall lib r q
name_reaches lib r q y x n t = by_program (lib r) refl
  where
    by_program : (o : Option Text) → lib r ≡ o → ReachesByCall lib r q
    by_program None e = absurd (subst (λ (o : Option Text). InTrace q x (run_deep lib (suc n) o y n).1) e t)
    by_program (Some p) e = (p, e, traced_reach lib q x (suc n) p y n (subst (λ (o : Option Text). InTrace q x (run_deep lib (suc n) o y n).1) e t))

-- the first call of one list and of another that is the same
abbrev head_of : Pair → List Pair → Pair
head_of p [] = p
head_of p (h ∷ t) = h

abbrev tail_of : List Pair → List Pair
tail_of [] = []
tail_of (h ∷ t) = t

module _
    (terms : Terms)
    (limit : ℕ)
    (fits : limit ≤ ample)
    (eight : HasEight terms)
    (s : Store)
    (es : List Put)
    (s2 : Store)
    (sound : Sound s terms limit)
    (comes : ComesByPuts terms limit s es s2)
    (q : ℕ)
    (above : (r : ℕ) → ReachesByCall (programs_of s) r q → IsApart r es)
    (above2 : (r : ℕ) → ReachesByCall (programs_of s2) r q → IsApart r es)
  where
    -- the callee's own calls: where no entry has its name they are those of the run in the newer store, and else none of them is of q
    abbrev SameWithin : ℤ → Calls → Calls → Type 0
    SameWithin x c1 c2 = InTrace q x c1 ↔ InTrace q x c2

    abbrev AllSteady : Calls → Type 0
    AllSteady c = (z : ℕ) (w : ℤ) → Contains (direct c) (pair z w) → IsSteady s es z w

    -- what a steady name's runs call is the same list, steady again
    inner_same : (r : ℕ) (y v1 v2 : ℤ) (u1 u2 : ℕ) (c1 c2 : Calls) → IsApart r es → IsSteady s es r y → run_name (programs_of s) r y limit ≡ (value v1 u1, c1) → run_name (programs_of s2) r y limit ≡ (value v2 u2, c2)
        → (direct c2 ≡ direct c1) × AllSteady c1
    inner_same r y v1 v2 u1 u2 c1 c2 apart steady h1 h2 =
        let kept = steady_keeps terms limit fits eight s es s2 sound comes r y apart steady in
        let k = kept.0 in
        let one1 = same_run (programs_of s) r y k.value_of v1 limit k.used u1 k.calls c1 k.was h1 in
        let one2 = same_run (programs_of s2) r y k.value_of v2 limit k.less u2 k.now c2 k.is h2 in
        (ap direct (sym one2.2) ∙ k.same_calls ∙ ap direct one1.2, subst AllSteady one1.2 kept.1)

    module _ (x : ℤ) where
      traces_same : (c1 c2 : Calls) → direct c2 ≡ direct c1 → AreAnswered (programs_of s) limit c1 → AreAnswered (programs_of s2) limit c2 → AllSteady c1 → SameWithin x c1 c2
      traces_same none none e h1 h2 steady = (λ t. t, λ t. t)
      traces_same none (call r y o inner rest) e h1 h2 steady = absurd cc
      traces_same (call r y o inner rest) none e h1 h2 steady = absurd cc
      traces_same (call r1 y1 o1 inner1 rest1) (call r2 y2 o2 inner2 rest2) e h1 h2 steady =
          both (traces_same rest1 rest2 rests h1.2 h2.2 (λ z w h. steady z w (suc h.0, (let lt = h.1 in omega (arith, lt)), h.2)))
          (λ same within. traces_same inner1 inner2 same h1.1 h2.1 within)
        where
          first : pair r2 y2 ≡ pair r1 y1
          first = ap (head_of (pair r2 y2)) e

          rests : direct rest2 ≡ direct rest1
          rests = ap tail_of e

          same_name : r2 ≡ r1
          same_name = ap (λ (p : Pair). p.name) first

          same_arg : y2 ≡ y1
          same_arg = ap (λ (p : Pair). p.arg) first

          here2 : run_name (programs_of s2) r1 y1 limit ≡ (value h2.0.0 h2.0.1, inner2)
          here2 = ap (λ (r : ℕ). run_name (programs_of s2) r y1 limit) (sym same_name) ∙ ap (λ (y : ℤ). run_name (programs_of s2) r2 y limit) (sym same_arg) ∙ h2.0.3

          within : ((direct inner2 ≡ direct inner1) → AllSteady inner1 → SameWithin x inner1 inner2) → IsApart r1 es ⊎ (IsApart r1 es → ⊥) → SameWithin x inner1 inner2
          within go (inl apart) =
              let l = inner_same r1 y1 h1.0.0 h2.0.0 h1.0.1 h2.0.1 inner1 inner2 apart (steady r1 y1 (zero, omega arith, refl)) h1.0.3 here2 in
              go l.0 l.1
          within go (inr not) = (
            λ t. absurd (not (above r1 (name_reaches (programs_of s) r1 q y1 x limit (subst (λ (c : Calls). InTrace q x c) (sym (ap (λ (z : Outcome × Calls). z.1) h1.0.3)) t)))),
            λ t. absurd (not (above2 r1 (name_reaches (programs_of s2) r1 q y1 x limit (subst (λ (c : Calls). InTrace q x c) (sym (ap (λ (z : Outcome × Calls). z.1) here2)) t)))),
          )

          both : SameWithin x rest1 rest2 → ((direct inner2 ≡ direct inner1) → AllSteady inner1 → SameWithin x inner1 inner2) → SameWithin x (call r1 y1 o1 inner1 rest1) (call r2 y2 o2 inner2 rest2)
          both later go = (forth, back)
            where
              inners : SameWithin x inner1 inner2
              inners = within go (decide_apart r1 es)

              forth : InTrace q x (call r1 y1 o1 inner1 rest1) → InTrace q x (call r2 y2 o2 inner2 rest2)
              forth (inl m) = inl (m.0 ∙ sym same_name, m.1 ∙ sym same_arg)
              forth (inr (inl t)) = inr (inl (inners.0 t))
              forth (inr (inr t)) = inr (inr (later.0 t))

              back : InTrace q x (call r2 y2 o2 inner2 rest2) → InTrace q x (call r1 y1 o1 inner1 rest1)
              back (inl m) = inl (m.0 ∙ same_name, m.1 ∙ same_arg)
              back (inr (inl t)) = inr (inl (inners.1 t))
              back (inr (inr t)) = inr (inr (later.1 t))

    sound2 : Sound s2 terms limit
    sound2 = comes_sound terms limit fits eight s es s2 sound comes

    -- the checked runs of a name that no entry has call q at the same arguments
    checked_same : (c i : ℕ) (x : ℤ) → IsApart c es → i < checked_at s c
        → InTrace q x (run_name (programs_of s) c (pos i) ample).1 ↔ InTrace q x (run_name (programs_of s2) c (pos i) ample).1
    checked_same c i x apart lt =
        let kept = steady_keeps terms limit fits eight s es s2 sound comes c (pos i) apart (checked_steady terms limit fits eight s es s2 sound comes c i apart lt) in
        let k = kept.0 in
        let full1 : (run_name (programs_of s) c (pos i) ample).1 ≡ k.calls = ap (λ (z : Outcome × Calls). z.1) (with_ample s terms limit sound fits c (pos i) k.value_of k.used k.calls k.was) in
        let full2 : (run_name (programs_of s2) c (pos i) ample).1 ≡ k.now = ap (λ (z : Outcome × Calls). z.1) (with_ample s2 terms limit sound2 fits c (pos i) k.value_of k.less k.now k.is) in
        let same = traces_same x k.calls k.now k.same_calls (answered_name (programs_of s) limit c (pos i) k.value_of k.used k.calls k.was) (answered_name (programs_of s2) limit c (pos i) k.value_of k.less k.now k.is) kept.1 in (
          λ t. subst (λ (z : Calls). InTrace q x z) (sym full2) (same.0 (subst (λ (z : Calls). InTrace q x z) full1 t)),
          λ t. subst (λ (z : Calls). InTrace q x z) (sym full1) (same.1 (subst (λ (z : Calls). InTrace q x z) full2 t)),
        )

    same_there : (c : ℕ) → IsApart c es → published_at s2 c ≡ published_at s c
    same_there c apart = apart_same terms limit fits eight s es s2 sound comes c apart

    -- The law: the same checked runs demand the same arguments.
    pub demands_same : (c i : ℕ) (x : ℤ) → Demands s2 c i q x ↔ Demands s c i q x
    demands_same c i x = (back, forth)
      where
        counted : (e : Published) → published_at s c ≡ Some e → i < e.checked → i < checked_at s c
        counted e there lt = subst (λ (o : Option Published). i < checked_in o) (sym there) lt

        forth : Demands s c i q x → Demands s2 c i q x
        forth d =
            let apart = above c (name_reaches (programs_of s) c q (pos i) x ample d.3) in
            (d.0, same_there c apart ∙ d.1, d.2, (checked_same c i x apart (counted d.0 d.1 d.2)).0 d.3)

        back : Demands s2 c i q x → Demands s c i q x
        back d =
            let apart = above2 c (name_reaches (programs_of s2) c q (pos i) x ample d.3) in
            let there = sym (same_there c apart) ∙ d.1 in
            (d.0, there, d.2, (checked_same c i x apart (counted d.0 there d.2)).1 d.3)
