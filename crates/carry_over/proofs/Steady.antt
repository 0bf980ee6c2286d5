-- What no accepted entry changed keeps its direct calls.
use Rattle.std.proofs.Common.{ℕ, ◌≤◌, ◌≡◌, ◌≢◌, ap, sym, ◌∙◌, arith, ℤ, inr, List, [], ◌∷◌}
use Rattle.std.specs.Option.{option_map}
use Rattle.loda_semantics.specs.Laws.{Cheaper}
use Rattle.loda_semantics.specs.Exec.{Outcome, value, Calls, Library, run_name}
use Rattle.program_store.specs.declared.published.Published.{Published}
use Rattle.program_store.specs.Store.{Store, published_at, programs_of}
use Rattle.program_store.proofs.Puts.{put_elsewhere}
use Rattle.seq_calls.specs.Frames.{steps_of}
use Rattle.seq_calls.specs.Demand.{ample, IsReliedOn}
use Rattle.seq_calls.specs.Values.{outcome, KeepsValue}
use Rattle.seq_calls.specs.Runs.{KeepsRun}
use Rattle.seq_calls.proofs.Values.{gives_value}
use Rattle.seq_calls.proofs.Bounded.{cheaper_with}
use Rattle.seq_calls.proofs.Stay.{run_kept}
use Rattle.judge.specs.declared.answer.Answer.TheVariants.{Accepted}
use Rattle.judge.specs.Passed.{Terms}
use Rattle.judge.specs.Sound.{Sound}
use Rattle.judge.specs.Judged.{IsJudged}
use Rattle.judge.specs.Kept.{LosesNothing, HasEight}
use Rattle.judge.proofs.Demanded.{relied_runs}
use Rattle.judge.proofs.Keep.{keep}
use Rattle.carry_over.proofs.Puts.{Put, after_put}

-- what a run comes to is one value, with as many steps and by the same calls
pub same_run : (lib : Library) (q : ℕ) (x v w : ℤ) (n u1 u2 : ℕ) (c1 c2 : Calls) → run_name lib q x n ≡ (value v u1, c1) → run_name lib q x n ≡ (value w u2, c2) → (v ≡ w) × (u1 ≡ u2) × (c1 ≡ c2)
same_run lib q x v w n u1 u2 c1 c2 h1 h2 =
    let e : value v u1 ≡ value w u2 = ap (λ (z : Outcome × Calls). z.0) (sym h1 ∙ h2) in
    (cc, cc, ap (λ (z : Outcome × Calls). z.1) (sym h1 ∙ h2))

-- what keeps its value is no dearer, whatever the steps
cheaper_of : (lib1 lib2 : Library) (limit q : ℕ) (x : ℤ) → KeepsValue lib1 lib2 limit q x → Cheaper lib1 lib2 q x
cheaper_of lib1 lib2 limit q x k =
    let was = gives_value (outcome lib1 q x limit) k.value k.was in
    let now = gives_value (outcome lib2 q x limit) k.value k.now in
    let old : run_name lib1 q x limit ≡ (value k.value was.0, (run_name lib1 q x limit).1) = ap (λ (z : Outcome). (z, (run_name lib1 q x limit).1)) was.1 in
    let new : run_name lib2 q x limit ≡ (value k.value now.0, (run_name lib2 q x limit).1) = ap (λ (z : Outcome). (z, (run_name lib2 q x limit).1)) now.1 in
    let no_dearer = k.no_dearer in
    let steps1 : steps_of (outcome lib1 q x limit) ≡ was.0 = ap steps_of was.1 in
    let steps2 : steps_of (outcome lib2 q x limit) ≡ now.0 = ap steps_of now.1 in
    cheaper_with lib1 lib2 q x k.value limit was.0 now.0 (run_name lib1 q x limit).1 (run_name lib2 q x limit).1 old new (omega (arith, no_dearer, steps1, steps2))

-- ---- a list of entries

-- the argument is relied on in the store and in each after it
abbrev pub IsSteady : Store → List Put → ℕ → ℤ → Type 0
IsSteady s [] r y = IsReliedOn s r y
IsSteady s (e ∷ es) r y = IsReliedOn s r y × IsSteady (after_put s e) es r y

-- ---- one entry

module _ (terms : Terms) (limit : ℕ) (fits : limit ≤ ample) (eight : HasEight terms) where
  module _ (s : Store) (e : Put) (sound : Sound s terms limit) (accepted : IsJudged s terms limit e.name e.program (Accepted e.checked)) where
    kept : Sound (after_put s e) terms limit × LosesNothing limit s (after_put s e)
    kept = keep s terms limit e.name e.program e.checked fits eight sound accepted

    pub next_sound : Sound (after_put s e) terms limit
    next_sound = kept.0

    pub same_entry : (r : ℕ) → r ≢ e.name → published_at (after_put s e) r ≡ published_at s r
    same_entry r other = put_elsewhere s e.name e.program e.checked r other

    -- another name keeps its value at an argument that is relied on, and the direct calls by which it comes to it
    pub step_keeps : (r : ℕ) (y : ℤ) → r ≢ e.name → IsReliedOn s r y → KeepsRun (programs_of s) (programs_of (after_put s e)) limit r y
    step_keeps r y other relied =
        let both = relied_runs s terms limit sound fits r y relied in
        let ran = both.0 in
        run_kept (programs_of s) (programs_of (after_put s e)) r y ran.value_of limit ran.used ran.calls
        (ap (option_map (λ (e : Published). e.program)) (same_entry r other)) ran.is
        (λ z w t. cheaper_of (programs_of s) (programs_of (after_put s e)) limit z w (kept.1.values z w (inr (both.1 z w t))))
