-- A name that is entered.
use Rattle.std.proofs.Common.{ℕ, ◌+◌, ◌≡◌, ◌⊎◌, ◌<◌, ◌≤◌, inl, inr, refl, sym, subst, subst₂, List, [], ◌∷◌, ◌++◌, Contains, length, get_or, arith}
use Rattle.std.proofs.lemmas.Bool.{cases_lt}
use Rattle.std.proofs.lemmas.List.{get_or_append_left, get_or_push, length_push}
use Rattle.std.proofs.lemmas.List.Elements.{Contains-push_cases}
use Rattle.loda_semantics.specs.Exec.{Library}
use Rattle.program_store.specs.Graph.{Reaches}
use Rattle.call_graph.specs.Closure.{CallsName}
use Rattle.call_graph.specs.Groups.{IsLeft, IsUpTo, IsMet, IsGrouped}
use Rattle.call_graph.specs.Walks.{frame}
use Rattle.call_graph.specs.declared.groups.Frame.{Frame}
use Rattle.call_graph.proofs.Paths.{reach_self}
use Rattle.call_graph.proofs.Sets.{cons-cases, cons-more, cons-here}
use Rattle.call_graph.proofs.Trails.{Falls, IsLeftAt, IsTrail, frame-here, frame-more, frame-cases}

module _ (lib : Library) (done stack starts : List ℕ) (name : ℕ) (below : (b : ℕ) → Contains starts b → b < length stack) where
  abbrev more : List ℕ
  more = stack ++ name ∷ []

  at-old : (j : ℕ) → j < length stack → get_or more j 0 ≡ get_or stack j 0
  at-old j lt = get_or_append_left stack (name ∷ []) 0 j lt

  at-new : (j : ℕ) → length stack ≡ j → get_or more j 0 ≡ name
  at-new j e = get_or_push stack name 0 j e

  len-more : length more ≡ length stack + 1
  len-more = length_push stack name

  -- what was met stays so
  met-more : (j n : ℕ) → j < length stack → IsMet done stack starts j n → IsMet done more (length stack ∷ starts) j n
  met-more j n lt met =
      elim met [
        | inl h ↦ inl h
        | inr m ↦
            inr (
              m.0,
              (let len : length more ≡ length stack + 1 = len-more in let l : m.0 < length stack = m.1 in omega arith),
              subst (λ x. x ≡ n) (sym (at-old m.0 m.1)) m.2,
              λ b h le. elim (cons-cases (length stack) starts b h) [ inl same ↦ absurd (omega arith) | inr there ↦ m.3 b there le ],
            )
      ]

  -- and the new name is met
  met-new : (j : ℕ) → j < length stack → IsMet done more (length stack ∷ starts) j name
  met-new j lt =
      inr (
        length stack,
        (let len : length more ≡ length stack + 1 = len-more in omega arith),
        at-new (length stack) refl,
        λ b h le. elim (cons-cases (length stack) starts b h) [ inl same ↦ omega arith | inr there ↦ let l : b < length stack = below b there in omega arith ],
      )

  module _ (grouped : IsGrouped lib done stack starts) (new : Contains done name → ⊥)
      (reached : (j : ℕ) → j < length stack → Reaches lib (get_or stack j 0) name) where
    entered-reach : (j k : ℕ) → j < length more → k < length more → IsUpTo (length stack ∷ starts) j k → Reaches lib (get_or more j 0) (get_or more k 0)
    entered-reach j k low high up =
        elim (cases_lt j (length stack)) [
          | inl lt ↦
              elim (cases_lt k (length stack)) [
                | inl under ↦
                    subst₂ (Reaches lib) (sym (at-old j lt)) (sym (at-old k under))
                    (grouped.reach j k lt under (λ b h le. up b (cons-more (length stack) starts b h) le))
                | inr over ↦
                    let len : length more ≡ length stack + 1 = len-more in
                    let e : length stack ≡ k = omega arith in
                    subst₂ (Reaches lib) (sym (at-old j lt)) (sym (at-new k e)) (reached j lt)
              ]
          | inr over ↦
              let len : length more ≡ length stack + 1 = len-more in
              let le : length stack ≤ k = up (length stack) (cons-here (length stack) starts) over in
              let e : j ≡ k = omega arith in
              subst (λ i. Reaches lib (get_or more j 0) (get_or more i 0)) e (reach_self lib (get_or more j 0))
        ]

    pub entered : IsGrouped lib done more (length stack ∷ starts)
    entered = record {
      closed = grouped.closed;
      apart = λ q there h.
          elim (Contains-push_cases stack name q there) [
            | inl old ↦ grouped.apart q old h
            | inr same ↦ new (subst (Contains done) (sym same) h)
          ];
      reach = entered-reach;
      descends = (below, grouped.descends);
      first = λ some.
          elim (cases_lt 0 (length stack)) [
            | inl lt ↦ cons-more (length stack) starts 0 (grouped.first lt)
            | inr z ↦ let e : length stack ≡ 0 = omega arith in subst (Contains (length stack ∷ starts)) e (cons-here (length stack) starts)
          ];
    }

  module _ (path : List Frame) (falls : Falls path) (within : (f : Frame) → Contains path f → f.place < length stack)
      (started : (b : ℕ) → Contains starts b → (f : Frame) × Contains path f × (f.place ≡ b))
      (pending : (j : ℕ) → j < length stack → (n : ℕ) → CallsName lib (get_or stack j 0) n → IsMet done stack starts j n ⊎ ((name ≡ n) ⊎ IsLeftAt lib stack path j n)) where
    abbrev top : Frame
    top = frame (length stack) 0

    entered-pending : (j : ℕ) → j < length more → (n : ℕ) → CallsName lib (get_or more j 0) n
        → IsMet done more (length stack ∷ starts) j n ⊎ IsLeftAt lib more (top ∷ path) j n
    entered-pending j low n call =
        elim (cases_lt j (length stack)) [
          | inl lt ↦
              elim (pending j lt n (subst (λ q. CallsName lib q n) (at-old j lt) call)) [
                | inl met ↦ inl (met-more j n lt met)
                | inr rest ↦
                    elim rest [
                      | inl same ↦ inl (subst (λ q. IsMet done more (length stack ∷ starts) j q) same (met-new j lt))
                      | inr left ↦
                          inr (left.0, frame-more top path left.0 left.1, left.2, subst (λ q. IsLeft lib q left.0.next n) (sym (at-old j lt)) left.3)
                    ]
              ]
          | inr over ↦
              let len : length more ≡ length stack + 1 = len-more in
              let e : length stack ≡ j = omega arith in
              inr (top, frame-here top path, e, call)
        ]

    pub entered-trail : IsTrail lib done more (length stack ∷ starts) (top ∷ path)
    entered-trail = record {
      descends = (within, falls);
      within = λ f there.
          let len : length more ≡ length stack + 1 = len-more in
          elim (frame-cases top path f there) [
            | inl same ↦ subst (λ (g : Frame). g.place < length more) same (omega arith)
            | inr h ↦ let lt : f.place < length stack = within f h in omega arith
          ];
      started = λ b there.
          elim (cons-cases (length stack) starts b there) [
            | inl same ↦ (top, frame-here top path, same)
            | inr h ↦ let g = started b h in (g.0, frame-more top path g.0 g.1, g.2)
          ];
      pending = entered-pending;
    }
