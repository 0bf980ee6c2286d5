-- A name whose calls have been followed up to a place, or all.
use Rattle.std.proofs.Common.{ℕ, ◌≡◌, ◌⊎◌, ◌<◌, inl, inr, refl, sym, subst, List, ◌∷◌, Contains, length, get_or}
use Rattle.loda_semantics.specs.Exec.{Library}
use Rattle.call_graph.specs.Closure.{CallsName}
use Rattle.call_graph.specs.Groups.{IsLeft, IsMet}
use Rattle.call_graph.specs.Walks.{frame}
use Rattle.call_graph.specs.declared.groups.Frame.{Frame}
use Rattle.call_graph.proofs.Joining.{met-fewer}
use Rattle.call_graph.proofs.Trails.{Falls, IsLeftAt, IsTrail, frame-here, frame-more, frame-cases}

module _ (lib : Library) (done stack starts : List ℕ) (f : Frame) (fs : List Frame) (trail : IsTrail lib done stack starts (f ∷ fs))
    (new : List ℕ) (fewer : (b : ℕ) → Contains new b → Contains starts b) where
  -- the path, once the calls of its end have been followed up to the place
  module _ (next : ℕ) where
    abbrev moved : Frame
    moved = frame f.place next

    pub down-falls : Falls (moved ∷ fs)
    down-falls = trail.descends

    pub down-within : (g : Frame) → Contains (moved ∷ fs) g → g.place < length stack
    down-within g there =
        elim (frame-cases moved fs g there) [
          | inl same ↦ subst (λ (h : Frame). h.place < length stack) same (trail.within f (frame-here f fs))
          | inr h ↦ trail.within g (frame-more f fs g h)
        ]

    pub down-started : (b : ℕ) → Contains new b → (g : Frame) × Contains (moved ∷ fs) g × (g.place ≡ b)
    down-started b there =
        let g = trail.started b (fewer b there) in
        elim (frame-cases f fs g.0 g.1) [
          | inl same ↦ (moved, frame-here moved fs, subst (λ (h : Frame). h.place ≡ b) (sym same) g.2)
          | inr h ↦ (g.0, frame-more moved fs g.0 h, g.2)
        ]

    pub down-pending : (name : ℕ)
        → ((n : ℕ) → CallsName lib (get_or stack f.place 0) n → IsMet done stack new f.place n ⊎ ((name ≡ n) ⊎ IsLeft lib (get_or stack f.place 0) next n))
        → (j : ℕ) → j < length stack → (n : ℕ) → CallsName lib (get_or stack j 0) n
        → IsMet done stack new j n ⊎ ((name ≡ n) ⊎ IsLeftAt lib stack (moved ∷ fs) j n)
    down-pending name followed j low n call =
        elim (trail.pending j low n call) [
          | inl met ↦ inl (met-fewer lib done stack starts new fewer j n met)
          | inr left ↦
              elim (frame-cases f fs left.0 left.1) [
                | inl same ↦ here (subst (λ (h : Frame). h.place ≡ j) (sym same) left.2)
                | inr h ↦ inr (inr (left.0, frame-more moved fs left.0 h, left.2, left.3))
              ]
        ]
      where
        at : (i : ℕ) → f.place ≡ i → CallsName lib (get_or stack i 0) n → IsMet done stack new i n ⊎ ((name ≡ n) ⊎ IsLeftAt lib stack (moved ∷ fs) i n)
        at i same calls =
            subst (λ i. CallsName lib (get_or stack i 0) n → IsMet done stack new i n ⊎ ((name ≡ n) ⊎ IsLeftAt lib stack (moved ∷ fs) i n)) same
            (λ calls. elim (followed n calls) [ inl met ↦ inl met | inr rest ↦ elim rest [ inl e ↦ inr (inl e) | inr left ↦ inr (inr (moved, frame-here moved fs, refl, left)) ] ])
            calls

        here : f.place ≡ j → IsMet done stack new j n ⊎ ((name ≡ n) ⊎ IsLeftAt lib stack (moved ∷ fs) j n)
        here same = at j same call

  -- the path, once all calls of its end have been followed
  module _ (followed : (n : ℕ) → CallsName lib (get_or stack f.place 0) n → IsMet done stack new f.place n) where
    pub up-pending : (j : ℕ) → j < length stack → (n : ℕ) → CallsName lib (get_or stack j 0) n → IsMet done stack new j n ⊎ IsLeftAt lib stack fs j n
    up-pending j low n call =
        elim (trail.pending j low n call) [
          | inl met ↦ inl (met-fewer lib done stack starts new fewer j n met)
          | inr left ↦
              elim (frame-cases f fs left.0 left.1) [
                | inl same ↦ inl (at j (subst (λ (h : Frame). h.place ≡ j) (sym same) left.2) call)
                | inr h ↦ inr (left.0, h, left.2, left.3)
              ]
        ]
      where
        at : (i : ℕ) → f.place ≡ i → CallsName lib (get_or stack i 0) n → IsMet done stack new i n
        at i same calls = subst (λ i. CallsName lib (get_or stack i 0) n → IsMet done stack new i n) same (followed n) calls

    -- its group goes on, since it starts before
    pub up-trail : (Contains new f.place → ⊥) → IsTrail lib done stack new fs
    up-trail apart = record {
      descends = trail.descends.1;
      within = λ g there. trail.within g (frame-more f fs g there);
      started = λ b there.
          let g = trail.started b (fewer b there) in
          elim (frame-cases f fs g.0 g.1) [
            | inl same ↦ absurd (apart (subst (Contains new) (sym (subst (λ (h : Frame). h.place ≡ b) (sym same) g.2)) there))
            | inr h ↦ (g.0, h, g.2)
          ];
      pending = up-pending;
    }
