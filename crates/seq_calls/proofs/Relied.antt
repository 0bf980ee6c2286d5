-- An argument that is relied on has a value, and what its run calls is demanded.
use Rattle.std.proofs.Common.{ℕ, ◌<◌, ◌≡◌, refl, sym, ap, subst, arith, ℤ, pos, inl, inr}
use Rattle.std.specs.declared.option.Option.{Option}
use Rattle.std.specs.declared.option.Option.TheVariants.{Some, None}
use Rattle.loda_semantics.specs.Exec.{Outcome, Calls, none, call, Library, run_name}
use Rattle.program_store.specs.declared.published.Published.{Published}
use Rattle.program_store.specs.Store.{Store, published_at, programs_of, checked_in}
use Rattle.seq_calls.specs.Demand.{InTrace, ample, InDem, IsReliedOn}
use Rattle.seq_calls.specs.Runs.{HasRun, HasValues}
use Rattle.seq_calls.proofs.Records.{AreAnswered, answered_name}

-- a traced call has a value, and what its run calls is traced
pub traced : (lib : Library) (n q : ℕ) (x : ℤ) (c : Calls) → AreAnswered lib n c → InTrace q x c → (ran : HasRun lib n q x) × ((r : ℕ) (y : ℤ) → InTrace r y ran.calls → InTrace r y c)
traced lib n q x none h t = absurd t
traced lib n q x (call r y o inner rest) h (inl e) =
    let there : HasRun lib n r y = record { value_of = h.0.0; used = h.0.1; calls = inner; is = h.0.3 } in
    let Both : ℕ → ℤ → Type 0 = λ r2 y2. (ran : HasRun lib n r2 y2) × ((s : ℕ) (z : ℤ) → InTrace s z ran.calls → InTrace s z (call r y o inner rest)) in
    subst (λ (a : ℕ). Both a x) (sym e.0) (subst (λ (b : ℤ). Both r b) (sym e.1) (there, λ s z k. inr (inl k)))
traced lib n q x (call r y o inner rest) h (inr (inl t)) = let on = traced lib n q x inner h.1 t in (on.0, λ s z k. inr (inl (on.1 s z k)))
traced lib n q x (call r y o inner rest) h (inr (inr t)) = let on = traced lib n q x rest h.2 t in (on.0, λ s z k. inr (inr (on.1 s z k)))

pub is_checked : (o : Option Published) (i : ℕ) → i < checked_in o → (e : Published) × (o ≡ Some e) × (i < e.checked)
is_checked None i lt = absurd (omega arith)
is_checked (Some e) i lt = (e, refl, lt)

module _ (s : Store) (values : HasValues s) where
  checked_run : (q i : ℕ) (e : Published) → published_at s q ≡ Some e → i < e.checked → HasRun (programs_of s) ample q (pos i)
  checked_run q i e there lt =
      let v = values q i e there lt in
      record { value_of = v.0; used = v.1; calls = (run_name (programs_of s) q (pos i) ample).1; is = ap (λ (o : Outcome). (o, (run_name (programs_of s) q (pos i) ample).1)) v.2 }

  pub relied_run : (q : ℕ) (x : ℤ) → IsReliedOn s q x → (ran : HasRun (programs_of s) ample q x) × ((r : ℕ) (y : ℤ) → InTrace r y ran.calls → InDem s r y)
  relied_run q x (inl c) =
      let known = is_checked (published_at s q) c.0 c.1 in
      let ran = checked_run q c.0 known.0 known.1 known.2 in
      let Both : ℤ → Type 0 = λ x. (ran : HasRun (programs_of s) ample q x) × ((r : ℕ) (y : ℤ) → InTrace r y ran.calls → InDem s r y) in
      subst Both (sym c.2) (ran, λ r y t. (q, c.0, (known.0, known.1, known.2, subst (λ (d : Calls). InTrace r y d) (sym (ap (λ (z : Outcome × Calls). z.1) ran.is)) t)))
  relied_run q x (inr d) =
      let top = checked_run d.0 d.1 d.2.0 d.2.1 d.2.2 in
      let here : InTrace q x top.calls = subst (λ (c : Calls). InTrace q x c) (ap (λ (z : Outcome × Calls). z.1) top.is) d.2.3 in
      let on = traced (programs_of s) ample q x top.calls (answered_name (programs_of s) ample d.0 (pos d.1) top.value_of top.used top.calls top.is) here in
      (on.0, λ r y t. (d.0, d.1, (d.2.0, d.2.1, d.2.2, subst (λ (c : Calls). InTrace r y c) (sym (ap (λ (z : Outcome × Calls). z.1) top.is)) (on.1 r y t))))
