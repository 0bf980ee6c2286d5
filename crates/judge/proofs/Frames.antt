-- The frames of a checked run hold what it relies on, and nothing else.
use Rattle.std.proofs.Common.{ℕ, ◌+◌, ◌<◌, ◌≤◌, ◌≡◌, refl, sym, ap, subst, ◌∙◌, ℤ, pos, inl, inr, List, [], ◌∷◌, ◌++◌, length, take, get_or}
use Rattle.std.specs.Prelude.{◌⊎◌}
use Rattle.std.proofs.lemmas.List.{take_more}
use Rattle.std.specs.declared.option.Option.TheVariants.{Some}
use Rattle.loda_semantics.specs.Exec.{Outcome, value, fault, out, Calls, none, call, Library, run_name}
use Rattle.program_store.specs.declared.published.Published.{Published}
use Rattle.program_store.specs.Store.{Store, published_at, programs_of, checked_at}
use Rattle.seq_calls.specs.declared.outcomes.NodeRun.{NodeRun}
use Rattle.seq_calls.specs.Frames.{nodes_in, node_of, nodes_of}
use Rattle.seq_calls.specs.Demand.{InTrace, ample}
use Rattle.seq_calls.proofs.Records.{AreAnswered, answered_name}
use Rattle.seq_calls.specs.Runs.{HasRun}
use Rattle.seq_calls.proofs.Relied.{is_checked}
use Rattle.judge.specs.declared.comparing.CheckedRun.{CheckedRun}
use Rattle.judge.specs.Passed.{Terms}
use Rattle.judge.specs.Sound.{Sound}
use Rattle.judge.specs.Changes.{Relies, IsAmong}
use Rattle.judge.proofs.Demanded.{checked_runs, with_ample}

module _ (q : ℕ) (x : ℤ) where
  pub among_left : (a b : List NodeRun) → IsAmong q x a → IsAmong q x (a ++ b)
  among_left [] b h = absurd h
  among_left (node ∷ a) b (inl h) = inl h
  among_left (node ∷ a) b (inr h) = inr (among_left a b h)

  pub among_right : (a b : List NodeRun) → IsAmong q x b → IsAmong q x (a ++ b)
  among_right [] b h = h
  among_right (node ∷ a) b h = inr (among_right a b h)

  pub among_parts : (a b : List NodeRun) → IsAmong q x (a ++ b) → IsAmong q x a ⊎ IsAmong q x b
  among_parts [] b h = inr h
  among_parts (node ∷ a) b (inl h) = inl (inl h)
  among_parts (node ∷ a) b (inr h) = by_part (among_parts a b h)
    where
      by_part : IsAmong q x a ⊎ IsAmong q x b → IsAmong q x (node ∷ a) ⊎ IsAmong q x b
      by_part (inl k) = inl (inr k)
      by_part (inr k) = inr k

  node_met : (r : ℕ) (y : ℤ) (o : Outcome) (c : Calls) → IsAmong q x (node_of r y o c) → (q ≡ r) × (x ≡ y)
  node_met r y (value v n) c (inl h) = (sym h.0, sym h.1)
  node_met r y (value v n) c (inr h) = absurd h
  node_met r y (fault k n) c h = absurd h
  node_met r y (out n) c h = absurd h

  met_node : (r : ℕ) (y : ℤ) (o : Outcome) (c : Calls) (v : ℤ) (n : ℕ) → o ≡ value v n → q ≡ r → x ≡ y → IsAmong q x (node_of r y o c)
  met_node r y o c v n e f g = subst (λ (z : Outcome). IsAmong q x (node_of r y z c)) (sym e) (inl (sym f, sym g))

  -- the parts of a call's frames, and what the calls in them trace
  traced_parts : (r : ℕ) (y : ℤ) (o : Outcome) (inner rest : Calls) → (IsAmong q x (nodes_in inner) → InTrace q x inner) → (IsAmong q x (nodes_in rest) → InTrace q x rest)
      → IsAmong q x ((nodes_in inner ++ node_of r y o inner) ++ nodes_in rest) → InTrace q x (call r y o inner rest)
  traced_parts r y o inner rest in_inner in_rest h = by_rest (among_parts (nodes_in inner ++ node_of r y o inner) (nodes_in rest) h)
    where
      by_inner : IsAmong q x (nodes_in inner) ⊎ IsAmong q x (node_of r y o inner) → InTrace q x (call r y o inner rest)
      by_inner (inl k) = inr (inl (in_inner k))
      by_inner (inr k) = inl (node_met r y o inner k)

      by_rest : IsAmong q x (nodes_in inner ++ node_of r y o inner) ⊎ IsAmong q x (nodes_in rest) → InTrace q x (call r y o inner rest)
      by_rest (inl k) = by_inner (among_parts (nodes_in inner) (node_of r y o inner) k)
      by_rest (inr k) = inr (inr (in_rest k))

  pub traced_of : (c : Calls) → IsAmong q x (nodes_in c) → InTrace q x c
  traced_of none h = absurd h
  traced_of (call r y o inner rest) h = traced_parts r y o inner rest (λ k. traced_of inner k) (λ k. traced_of rest k) h

  pub among_of : (lib : Library) (n : ℕ) (c : Calls) → AreAnswered lib n c → InTrace q x c → IsAmong q x (nodes_in c)
  among_of lib n none h t = absurd t
  among_of lib n (call r y o inner rest) h (inl e) =
      among_left (nodes_in inner ++ node_of r y o inner) (nodes_in rest) (among_right (nodes_in inner) (node_of r y o inner) (met_node r y o inner h.0.0 h.0.1 h.0.2 e.0 e.1))
  among_of lib n (call r y o inner rest) h (inr (inl t)) =
      among_left (nodes_in inner ++ node_of r y o inner) (nodes_in rest) (among_left (nodes_in inner) (node_of r y o inner) (among_of lib n inner h.1 t))
  among_of lib n (call r y o inner rest) h (inr (inr t)) =
      among_right (nodes_in inner ++ node_of r y o inner) (nodes_in rest) (among_of lib n rest h.2 t)

  -- ---- the frames one after the other

  module _ (nodes : List NodeRun) (i : ℕ) (node : NodeRun) (lt : i < length nodes) (is : node ≡ get_or nodes i node) where
    taken : take (i + 1) nodes ≡ take i nodes ++ node ∷ []
    taken = take_more nodes i node lt ∙ ap (λ (n : NodeRun). take i nodes ++ n ∷ []) (sym is)

    pub among_next : IsAmong q x (take (i + 1) nodes) → IsAmong q x (take i nodes) ⊎ ((node.pair.name ≡ q) × (node.pair.arg ≡ x))
    among_next h = by_part (among_parts (take i nodes) (node ∷ []) (subst (λ (l : List NodeRun). IsAmong q x l) taken h))
      where
        by_part : IsAmong q x (take i nodes) ⊎ IsAmong q x (node ∷ []) → IsAmong q x (take i nodes) ⊎ ((node.pair.name ≡ q) × (node.pair.arg ≡ x))
        by_part (inl k) = inl k
        by_part (inr (inl k)) = inr k
        by_part (inr (inr k)) = absurd k

    pub next_old : IsAmong q x (take i nodes) → IsAmong q x (take (i + 1) nodes)
    next_old h = subst (λ (l : List NodeRun). IsAmong q x l) (sym taken) (among_left (take i nodes) (node ∷ []) h)

    pub next_new : node.pair.name ≡ q → node.pair.arg ≡ x → IsAmong q x (take (i + 1) nodes)
    next_new e f = subst (λ (l : List NodeRun). IsAmong q x l) (sym taken) (among_right (take i nodes) (node ∷ []) (inl (e, f)))

-- ---- the frames of a checked run

module _ (s : Store) (terms : Terms) (limit : ℕ) (sound : Sound s terms limit) (fits : limit ≤ ample) (q : ℕ) (x : ℤ) (r : CheckedRun) (checked : r.index < checked_at s r.name) where
  entry : (e : Published) × (published_at s r.name ≡ Some e) × (r.index < e.checked)
  entry = is_checked (published_at s r.name) r.index checked

  ran : HasRun (programs_of s) limit r.name (pos r.index)
  unfolding entry
  ran = checked_runs s terms limit sound fits r.name r.index entry.0 entry.1 entry.2

  frames : nodes_of r.name (pos r.index) (run_name (programs_of s) r.name (pos r.index) limit) ≡ nodes_in ran.calls ++ node_of r.name (pos r.index) (value ran.value_of ran.used) ran.calls
  frames = ap (λ (p : Outcome × Calls). nodes_of r.name (pos r.index) p) ran.is

  full : (run_name (programs_of s) r.name (pos r.index) ample).1 ≡ ran.calls
  full = ap (λ (p : Outcome × Calls). p.1) (with_ample s terms limit sound fits r.name (pos r.index) ran.value_of ran.used ran.calls ran.is)

  pub relies_of : IsAmong q x (nodes_of r.name (pos r.index) (run_name (programs_of s) r.name (pos r.index) limit)) → Relies s q r x
  unfolding entry
  relies_of h = by_part (among_parts q x (nodes_in ran.calls) (node_of r.name (pos r.index) (value ran.value_of ran.used) ran.calls) (subst (λ (l : List NodeRun). IsAmong q x l) frames h))
    where
      by_part : IsAmong q x (nodes_in ran.calls) ⊎ IsAmong q x (node_of r.name (pos r.index) (value ran.value_of ran.used) ran.calls) → Relies s q r x
      by_part (inl k) = inl (entry.0, entry.1, entry.2, subst (λ (c : Calls). InTrace q x c) (sym full) (traced_of q x ran.calls k))
      by_part (inr k) = let e = node_met q x r.name (pos r.index) (value ran.value_of ran.used) ran.calls k in inr (sym e.0, subst (λ (n : ℕ). r.index < checked_at s n) (sym e.0) checked, e.1)

  pub among_relies : Relies s q r x → IsAmong q x (nodes_of r.name (pos r.index) (run_name (programs_of s) r.name (pos r.index) limit))
  among_relies h = subst (λ (l : List NodeRun). IsAmong q x l) (sym frames) (by_case h)
    where
      by_case : Relies s q r x → IsAmong q x (nodes_in ran.calls ++ node_of r.name (pos r.index) (value ran.value_of ran.used) ran.calls)
      by_case (inl d) =
          among_left q x (nodes_in ran.calls) (node_of r.name (pos r.index) (value ran.value_of ran.used) ran.calls)
          (among_of q x (programs_of s) limit ran.calls (answered_name (programs_of s) limit r.name (pos r.index) ran.value_of ran.used ran.calls ran.is)
          (subst (λ (c : Calls). InTrace q x c) full d.3))
      by_case (inr e) =
          among_right q x (nodes_in ran.calls) (node_of r.name (pos r.index) (value ran.value_of ran.used) ran.calls)
          (met_node q x r.name (pos r.index) (value ran.value_of ran.used) ran.calls ran.value_of ran.used refl (sym e.0) e.2)
