-- Where no entry has a name in the reach, a proposal meets the same in both stores.
use Rattle.std.proofs.Common.{ℕ, zero, suc, ◌≤◌, ◌≡◌, ◌≢◌, refl, sym, ap, subst, ◌∙◌, ℤ, inl, inr, List, Contains}
use Rattle.std.specs.Prelude.{◌⊎◌, ◌↔◌, ◌==◌, if◌then◌else◌}
use Rattle.std.specs.Option.{option_map}
use Rattle.std.specs.declared.option.Option.{Option}
use Rattle.std.specs.declared.option.Option.TheVariants.{Some}
use Rattle.loda_syntax.specs.Programs.{Text}
use Rattle.loda_semantics.specs.Exec.{Outcome, Calls, Library, run_name}
use Rattle.program_store.specs.declared.published.Published.{Published}
use Rattle.program_store.specs.Store.{Store, published_at, programs_of, with_program}
use Rattle.program_store.specs.Graph.{calls_of, Path, Reaches, CallsReach}
use Rattle.program_store.proofs.Puts.{with_here, with_elsewhere}
use Rattle.call_graph.proofs.Paths.{reach_call, reach_self}
use Rattle.seq_calls.specs.Demand.{ample}
use Rattle.judge.specs.Passed.{Terms}
use Rattle.judge.specs.Sound.{Sound}
use Rattle.judge.specs.Kept.{HasEight}
use Rattle.judge.proofs.Values.{decide}
use Rattle.carry_over.specs.Stores.{ComesBy, IsInReach, NoneHas}
use Rattle.carry_over.specs.Carries.{MeetsTheSame}
use Rattle.carry_over.proofs.Agree.{name_same}
use Rattle.carry_over.proofs.Puts.{Put, ComesByPuts, put_names, entries_of, IsApart, apart_of}
use Rattle.carry_over.proofs.Chain.{apart_same}
use Rattle.carry_over.proofs.Demands.{demands_same}
use Rattle.carry_over.proofs.Cases.{IsAlike}

-- ---- two libraries that agree on what the calls of a text reach

module _ (lib1 lib2 : Library) (p : Text) (same : (r : ℕ) → CallsReach lib1 p r → lib2 r ≡ lib1 r) where
  further : (r : ℕ) → CallsReach lib1 p r → (t : Text) → lib1 r ≡ Some t → (m : ℕ) → Contains (calls_of t) m → CallsReach lib1 p m
  further r there t e m call = (there.0, there.1, reach_call lib1 there.0 r there.2 t e m call)

  path_forth : (n from to : ℕ) → CallsReach lib1 p from → Path lib1 n from to → Path lib2 n from to
  path_forth zero from to there path = path
  path_forth (suc n) from to there path =
      (path.0, same from there ∙ path.1, path.2, path.3, path_forth n path.2 to (further from there path.0 path.1 path.2 path.3) path.4)

  path_back : (n from to : ℕ) → CallsReach lib1 p from → Path lib2 n from to → Path lib1 n from to
  path_back zero from to there path = path
  path_back (suc n) from to there path =
      let e : lib1 from ≡ Some path.0 = sym (same from there) ∙ path.1 in
      (path.0, e, path.2, path.3, path_back n path.2 to (further from there path.0 e path.2 path.3) path.4)

  pub reach_same : (name : ℕ) → Contains (calls_of p) name → (q : ℕ) → Reaches lib1 name q ↔ Reaches lib2 name q
  reach_same name call q =
      let there : CallsReach lib1 p name = (name, call, reach_self lib1 name) in
      (λ r. (r.0, path_forth r.0 name q there r.1), λ r. (r.0, path_back r.0 name q there r.1))

  -- With the text put at a name, which has the same program in both otherwise, the name's runs are the same.
  module _ (q : ℕ) (here : lib2 q ≡ lib1 q) where
    Met : ℕ → Type 0
    Met r = CallsReach lib1 p r ⊎ (r ≡ q)

    met_same : (r : ℕ) → Met r → with_program lib2 q p r ≡ with_program lib1 q p r
    unfolding Met
    met_same r (inl there) = ap (λ (o : Option Text). if r == q then Some p else o) (same r there)
    met_same r (inr e) = ap (λ (o : Option Text). if r == q then Some p else o) (subst (λ (z : ℕ). lib2 z ≡ lib1 z) (sym e) here)

    some_is : (a b : Text) → (o : Option Text) → o ≡ Some a → o ≡ Some b → a ≡ b
    some_is a b o e f = let g : Some a ≡ Some b = sym e ∙ f in cc

    met_closed : (r : ℕ) → Met r → (t : Text) → with_program lib1 q p r ≡ Some t → (m : ℕ) → Contains (calls_of t) m → Met m
    unfolding Met
    met_closed r there t e m call = by_name (decide r q)
      where
        by_met : r ≢ q → Met r → Met m
        by_met other (inl reached) = inl (further r reached t (sym (with_elsewhere lib1 q p r other) ∙ e) m call)
        by_met other (inr e) = absurd (other e)

        by_name : (r ≡ q) ⊎ (r ≢ q) → Met m
        by_name (inl is) =
            let text : t ≡ p = some_is t p (with_program lib1 q p q) (subst (λ (z : ℕ). with_program lib1 q p z ≡ Some t) is e) (with_here lib1 q p) in
            inl (m, subst (λ (z : Text). Contains (calls_of z) m) text call, reach_self lib1 m)
        by_name (inr other) = by_met other there

    pub put_same : (x : ℤ) (n : ℕ) → run_name (with_program lib2 q p) q x n ≡ run_name (with_program lib1 q p) q x n
    unfolding Met
    put_same x n = sym (name_same Met (with_program lib1 q p) (with_program lib2 q p) met_same met_closed q (inr refl) x n)

-- the same of the runs of a name whose present program reaches only such names
pub name_runs_same : (lib1 lib2 : Library) (q : ℕ) → ((r : ℕ) → Reaches lib1 q r → lib2 r ≡ lib1 r) → (x : ℤ) (n : ℕ) → run_name lib2 q x n ≡ run_name lib1 q x n
name_runs_same lib1 lib2 q same x n =
    sym (name_same (Reaches lib1 q) lib1 lib2 same (λ r there t e m call. reach_call lib1 q r there t e m call) q (reach_self lib1 q) x n)

-- ---- where rows have eight terms

module _
    (s : Store)
    (terms : Terms)
    (limit : ℕ)
    (names : List ℕ)
    (s2 : Store)
    (q : ℕ)
    (p : Text)
    (fits : limit ≤ ample)
    (eight : HasEight terms)
    (sound : Sound s terms limit)
    (comes : ComesBy terms limit s names s2)
    (none : NoneHas (IsInReach s s2 q p) names)
  where
    entries : (es : List Put) × ComesByPuts terms limit s es s2 × (put_names es ≡ names)
    entries = entries_of terms limit s names s2 comes

    apart : (r : ℕ) → IsInReach s s2 q p r → IsApart r entries.0
    apart r there = apart_of r entries.0 (λ c. none r (subst (λ (l : List ℕ). Contains l r) entries.2 c) there)

    entry_same : (r : ℕ) → IsInReach s s2 q p r → published_at s2 r ≡ published_at s r
    entry_same r there = apart_same terms limit fits eight s entries.0 s2 sound entries.1 r (apart r there)

    program_same : (r : ℕ) → IsInReach s s2 q p r → programs_of s2 r ≡ programs_of s r
    program_same r there = ap (option_map (λ (e : Published). e.program)) (entry_same r there)

    under : (r : ℕ) → Reaches (programs_of s) q r → programs_of s2 r ≡ programs_of s r
    under r path = by_path path.0 path.1
      where
        by_path : (n : ℕ) → Path (programs_of s) n q r → programs_of s2 r ≡ programs_of s r
        by_path zero e = program_same r (inl (sym e))
        by_path (suc n) on = program_same r (inr (inr (inl (on.0, on.1, (on.2, on.3, (n, on.4))))))

    below : (r : ℕ) → CallsReach (programs_of s) p r → programs_of s2 r ≡ programs_of s r
    below r there = program_same r (inr (inl there))

    pub meets : MeetsTheSame s s2 q p
    meets = record {
      published = entry_same q (inl refl);
      present_runs = name_runs_same (programs_of s) (programs_of s2) q under;
      proposed_runs = put_same (programs_of s) (programs_of s2) p below q (program_same q (inl refl));
      demands = demands_same terms limit fits eight s entries.0 s2 sound entries.1 q
          (λ r above. apart r (inr (inr (inr (inl above)))))
          (λ r above. apart r (inr (inr (inr (inr above)))));
    }

    pub alike : IsAlike s s2 limit q p
    alike = record {
      reach = λ name call. reach_same (programs_of s) (programs_of s2) p below name call q;
      published = meets.published;
      old = λ x. ap (λ (z : Outcome × Calls). z.0) (meets.present_runs x limit);
      new = λ x. ap (λ (z : Outcome × Calls). z.0) (meets.proposed_runs x limit);
      demands = meets.demands;
    }
