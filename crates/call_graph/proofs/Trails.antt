-- The path of a walk, from its end.
use Rattle.std.proofs.Common.{ℕ, suc, ◌≡◌, ◌⊎◌, ◌<◌, ◌≤◌, inl, inr, refl, sym, subst, List, [], ◌∷◌, Contains, length, get_or, arith}
use Rattle.std.specs.Prelude.{⊤}
use Rattle.loda_semantics.specs.Exec.{Library}
use Rattle.call_graph.specs.Closure.{CallsName}
use Rattle.call_graph.specs.Groups.{IsLeft, IsMet, IsFollowed}
use Rattle.call_graph.specs.declared.groups.Frame.{Frame}
use Rattle.std.proofs.lemmas.List.Elements.{Contains-append_cases, Contains-push_cases}

-- each frame's place lies above those after it
abbrev pub Falls : List Frame → Type 0
Falls [] = ⊤
Falls (f ∷ fs) = ((g : Frame) → Contains fs g → g.place < f.place) × Falls fs

-- the call is left to a frame of the place
abbrev pub IsLeftAt : Library → List ℕ → List Frame → ℕ → ℕ → Type 0
IsLeftAt lib stack path j n = (f : Frame) × Contains path f × (f.place ≡ j) × IsLeft lib (get_or stack j 0) f.next n

-- each group starts at a name of the path, and each call of an stack name has been followed, or is left to the path
pub record IsTrail (lib : Library) (done stack starts : List ℕ) (path : List Frame) : Type 0 where
  pub descends : Falls path
  pub within : (f : Frame) → Contains path f → f.place < length stack
  pub started : (b : ℕ) → Contains starts b → (f : Frame) × Contains path f × (f.place ≡ b)
  pub pending : (j : ℕ) → j < length stack → (n : ℕ) → CallsName lib (get_or stack j 0) n → IsMet done stack starts j n ⊎ IsLeftAt lib stack path j n

pub frame-here : (f : Frame) (fs : List Frame) → Contains (f ∷ fs) f
frame-here f fs = (0, omega arith, refl)

pub frame-more : (f : Frame) (fs : List Frame) (g : Frame) → Contains fs g → Contains (f ∷ fs) g
frame-more f fs g h = (suc h.0, omega arith, h.2)

pub frame-cases : (f : Frame) (fs : List Frame) (g : Frame) → Contains (f ∷ fs) g → (f ≡ g) ⊎ Contains fs g
frame-cases f fs g there =
    elim (Contains-append_cases (f ∷ []) fs g there) [
      | inl h ↦ elim (Contains-push_cases [] f g h) [ inl none ↦ absurd (omega arith) | inr e ↦ inl e ]
      | inr h ↦ inr h
    ]

module _ (lib : Library) (done stack starts : List ℕ) (f : Frame) (fs : List Frame) (trail : IsTrail lib done stack starts (f ∷ fs)) where
  -- no group starts behind the path's end
  pub trail-last : (b : ℕ) → Contains starts b → b ≤ f.place
  trail-last b there =
      let g = trail.started b there in
      elim (frame-cases f fs g.0 g.1) [
        | inl same ↦ subst (λ (h : Frame). b ≤ h.place) (sym same) (let e : g.0.place ≡ b = g.2 in omega arith)
        | inr h ↦ let lt : g.0.place < f.place = trail.descends.0 g.0 h in let e : g.0.place ≡ b = g.2 in omega arith
      ]

  pub trail-followed : IsFollowed lib done stack starts f.place f.next
  trail-followed n call =
      elim (trail.pending f.place (trail.within f (frame-here f fs)) n call) [
        | inl met ↦ inl met
        | inr left ↦
            elim (frame-cases f fs left.0 left.1) [
              | inl same ↦ inr (subst (λ (h : Frame). IsLeft lib (get_or stack f.place 0) h.next n) (sym same) left.3)
              | inr h ↦ let lt : left.0.place < f.place = trail.descends.0 left.0 h in let e : left.0.place ≡ f.place = left.2 in absurd (omega arith)
            ]
      ]
