-- In a sound store each argument that is relied on has a value, and what its run calls is demanded.
use Rattle.std.proofs.Common.{ℕ, suc, ◌-◌, ◌<◌, ◌≤◌, ◌≡◌, refl, sym, ap, subst, ◌∙◌, arith, ℤ, pos, inl, inr}
use Rattle.std.specs.declared.option.Option.{Option}
use Rattle.std.specs.declared.option.Option.TheVariants.{Some, None}
use Rattle.loda_semantics.specs.Exec.{Outcome, value, Calls, none, call, Library, run_name}
use Rattle.loda_semantics.proofs.Laws.{more_deep}
use Rattle.program_store.specs.declared.published.Published.{Published}
use Rattle.program_store.specs.Store.{Store, published_at, programs_of, checked_in}
use Rattle.seq_calls.specs.Demand.{InTrace, ample, InDem, IsReliedOn}
use Rattle.seq_calls.specs.Values.{outcome}
use Rattle.seq_calls.proofs.Records.{AreAnswered, answered_name}
use Rattle.seq_calls.proofs.Values.{gives_value}
use Rattle.seq_calls.specs.Runs.{HasRun}
use Rattle.seq_calls.proofs.Relied.{is_checked}
use Rattle.judge.specs.Passed.{Terms}
use Rattle.judge.specs.Sound.{Sound}
use Rattle.judge.proofs.Values.{term_at}

pub run_of : (lib : Library) (n q : ℕ) (x t : ℤ) (used : ℕ) → outcome lib q x n ≡ value t used → HasRun lib n q x
run_of lib n q x t used e =
    let ran = run_name lib q x n in
    record { value_of = t; used = used; calls = ran.1; is = ap (λ (z : Outcome). (z, ran.1)) e }

module _ (lib : Library) (n : ℕ) where
  traced : (q : ℕ) (x : ℤ) (c : Calls) → AreAnswered lib n c → InTrace q x c → HasRun lib n q x
  traced q x none h t = absurd t
  traced q x (call r y o inner rest) h (inl e) =
      let there : HasRun lib n r y = record { value_of = h.0.0; used = h.0.1; calls = inner; is = h.0.3 } in
      subst (λ (z : ℕ). HasRun lib n z x) (sym e.0) (subst (λ (z : ℤ). HasRun lib n r z) (sym e.1) there)
  traced q x (call r y o inner rest) h (inr (inl t)) = traced q x inner h.1 t
  traced q x (call r y o inner rest) h (inr (inr t)) = traced q x rest h.2 t

  -- what a traced run calls is traced
  nested : (q r : ℕ) (x y v : ℤ) (used : ℕ) (calls c : Calls) → AreAnswered lib n c → InTrace r y c → run_name lib r y n ≡ (value v used, calls) → InTrace q x calls → InTrace q x c
  nested q r x y v used calls none h t is u = absurd t
  nested q r x y v used calls (call s z o inner rest) h (inl e) is u =
      let there : run_name lib r y n ≡ (value h.0.0 h.0.1, inner) = subst (λ (a : ℕ). run_name lib a y n ≡ (value h.0.0 h.0.1, inner)) (sym e.0) (subst (λ (b : ℤ). run_name lib s b n ≡ (value h.0.0 h.0.1, inner)) (sym e.1) h.0.3) in
      let same : calls ≡ inner = ap (λ (p : Outcome × Calls). p.1) (sym is ∙ there) in
      inr (inl (subst (λ (c : Calls). InTrace q x c) same u))
  nested q r x y v used calls (call s z o inner rest) h (inr (inl t)) is u = inr (inl (nested q r x y v used calls inner h.1 t is u))
  nested q r x y v used calls (call s z o inner rest) h (inr (inr t)) is u = inr (inr (nested q r x y v used calls rest h.2 t is u))

module _ (s : Store) (terms : Terms) (limit : ℕ) (sound : Sound s terms limit) (fits : limit ≤ ample) where
  pub checked_runs : (q i : ℕ) (e : Published) → published_at s q ≡ Some e → i < e.checked → HasRun (programs_of s) limit q (pos i)
  checked_runs q i e there lt =
      let each = sound.each q e there in
      let term = term_at each.0 i (let h = each.3 in omega (arith, h)) in
      let g = gives_value (outcome (programs_of s) q (pos i) limit) term.0 (each.4 i term.0 lt term.1) in
      run_of (programs_of s) limit q (pos i) term.0 g.0 g.1

  pub with_ample : (q : ℕ) (x v : ℤ) (used : ℕ) (c : Calls) → run_name (programs_of s) q x limit ≡ (value v used, c) → run_name (programs_of s) q x ample ≡ (value v used, c)
  with_ample q x v used c h =
      more_deep (programs_of s) (ample - limit) (suc limit) (suc ample) (programs_of s q) x limit ample v used c (omega (arith, fits)) (omega arith) h

  -- what the run of a checked argument calls is demanded
  pub checked_demands : (q i : ℕ) (e : Published) → published_at s q ≡ Some e → i < e.checked → (ran : HasRun (programs_of s) limit q (pos i)) → (r : ℕ) (y : ℤ) → InTrace r y ran.calls → InDem s r y
  checked_demands q i e there lt ran r y t =
      let full = with_ample q (pos i) ran.value_of ran.used ran.calls ran.is in
      (q, i, (e, there, lt, subst (λ (c : Calls). InTrace r y c) (sym (ap (λ (p : Outcome × Calls). p.1) full)) t))

  -- a demanded argument is in the trace of a checked run
  in_checked : (q : ℕ) (x : ℤ) → (d : InDem s q x) → (ran : HasRun (programs_of s) limit d.0 (pos d.1)) → InTrace q x ran.calls
  in_checked q x d ran =
      let full = with_ample d.0 (pos d.1) ran.value_of ran.used ran.calls ran.is in
      subst (λ (c : Calls). InTrace q x c) (ap (λ (p : Outcome × Calls). p.1) full) d.2.3

  pub demanded_runs : (q : ℕ) (x : ℤ) → InDem s q x → HasRun (programs_of s) limit q x
  demanded_runs q x d =
      let ran = checked_runs d.0 d.1 d.2.0 d.2.1 d.2.2 in
      traced (programs_of s) limit q x ran.calls (answered_name (programs_of s) limit d.0 (pos d.1) ran.value_of ran.used ran.calls ran.is) (in_checked q x d ran)

  -- what the run of a demanded argument calls is demanded
  pub demanded_demands : (q : ℕ) (x : ℤ) → InDem s q x → (ran : HasRun (programs_of s) limit q x) → (r : ℕ) (y : ℤ) → InTrace r y ran.calls → InDem s r y
  demanded_demands q x d ran r y t =
      let top = checked_runs d.0 d.1 d.2.0 d.2.1 d.2.2 in
      checked_demands d.0 d.1 d.2.0 d.2.1 d.2.2 top r y
      (nested (programs_of s) limit r q y x ran.value_of ran.used ran.calls top.calls
      (answered_name (programs_of s) limit d.0 (pos d.1) top.value_of top.used top.calls top.is) (in_checked q x d top) ran.is t)

  -- An argument that is relied on has a value, and what its run calls is demanded.
  pub relied_runs : (q : ℕ) (x : ℤ) → IsReliedOn s q x → (ran : HasRun (programs_of s) limit q x) × ((r : ℕ) (y : ℤ) → InTrace r y ran.calls → InDem s r y)
  relied_runs q x (inr d) = let ran = demanded_runs q x d in (ran, demanded_demands q x d ran)
  relied_runs q x (inl c) =
      let known = is_checked (published_at s q) c.0 c.1 in
      let ran = checked_runs q c.0 known.0 known.1 known.2 in
      let Both : ℤ → Type 0 = λ x. (ran : HasRun (programs_of s) limit q x) × ((r : ℕ) (y : ℤ) → InTrace r y ran.calls → InDem s r y) in
      subst Both (sym c.2) (ran, checked_demands q c.0 known.0 known.1 known.2 ran)
