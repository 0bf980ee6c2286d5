-- Lists of callers, which grow by the calls of one name after the other.
use Rattle.std.proofs.Common.{ℕ, ◌≡◌, ◌≢◌, ◌<◌, ◌≤◌, ◌⊎◌, inl, inr, refl, sym, ap, subst, ◌∙◌, List, [], ◌∷◌, ◌++◌, Contains}
use Rattle.std.specs.declared.option.Option.TheVariants.{Some, None}
use Rattle.std.proofs.lemmas.Bool.{cases_eq}
use Rattle.std.proofs.lemmas.List.Elements.{Contains-push_cases, Contains-push, Contains-append_left}
use Rattle.loda_syntax.specs.Programs.{Text}
use Rattle.program_store.specs.Store.{Store, programs_of, published_at}
use Rattle.program_store.specs.Graph.{calls_of}
use Rattle.call_graph.specs.Closure.{CallsName}
use Rattle.call_graph.specs.Callers.{AddsCaller}
use Rattle.call_graph.proofs.Loops.{not_there, up_to_next}
use Rattle.call_graph.proofs.Upward.{one_call}
use Rattle.text_parts.specs.declared.names.TheConstants.{GREATEST_NAME}

-- one more call puts the caller last under what it calls
module _ (old mid new : ℕ → List ℕ) (caller called : ℕ) (calls : List ℕ)
    (here : new called ≡ mid called ++ caller ∷ []) (others : (name : ℕ) → name ≢ called → new name ≡ mid name) where
  new-cases : (to from : ℕ) → Contains (new to) from → Contains (mid to) from ⊎ ((from ≡ caller) × (called ≡ to))
  new-cases to from there =
      elim (cases_eq to called) [
        | inl e ↦
            elim (Contains-push_cases (mid called) caller from (subst (λ l. Contains l from) (ap new e ∙ here) there)) [
              | inl h ↦ inl (subst (λ k. Contains (mid k) from) (sym e) h)
              | inr is ↦ inr (sym is, sym e)
            ]
        | inr apart ↦ inl (subst (λ l. Contains l from) (others to apart) there)
      ]

  mid-kept : (to from : ℕ) → Contains (mid to) from → Contains (new to) from
  mid-kept to from there =
      elim (cases_eq to called) [
        | inl e ↦ subst (λ l. Contains l from) (sym (ap new e ∙ here)) (Contains-append_left (mid called) (caller ∷ []) from (subst (λ k. Contains (mid k) from) e there))
        | inr apart ↦ subst (λ l. Contains l from) (sym (others to apart)) there
      ]

  pub adds_more : AddsCaller old mid caller calls → AddsCaller old new caller (calls ++ called ∷ [])
  adds_more adds to from = (
    λ there.
        elim (new-cases to from there) [
          | inl h ↦
              elim ((adds to from).0 h) [
                | inl before ↦ inl before
                | inr call ↦ inr (call.0, Contains-append_left calls (called ∷ []) to call.1)
              ]
          | inr call ↦ inr (call.0, subst (Contains (calls ++ called ∷ [])) call.1 (Contains-push calls called))
        ],
    λ h.
        elim h [
          | inl before ↦ mid-kept to from ((adds to from).1 (inl before))
          | inr call ↦
              elim (Contains-push_cases calls called to call.1) [
                | inl before ↦ mid-kept to from ((adds to from).1 (inr (call.0, before)))
                | inr e ↦
                    subst (λ k. Contains (new k) from) e
                    (subst (λ l. Contains l from) (sym here) (subst (Contains (mid called ++ caller ∷ [])) (sym call.0) (Contains-push (mid called) caller)))
              ]
        ],
  )

-- the lists have the calls of the names up to `after`, and no others
pub record IsTurned (s : Store) (under : ℕ → List ℕ) (after : ℕ) : Type 0 where
  pub named : after ≤ GREATEST_NAME
  pub sound : (to from : ℕ) → Contains (under to) from → CallsName (programs_of s) from to
  pub whole : (from : ℕ) → 1 ≤ from → from ≤ after → (to : ℕ) → CallsName (programs_of s) from to → Contains (under to) from

-- the next name is visited, and has a program
pub turned_more : (s : Store) (under : ℕ → List ℕ) (after next : ℕ) → IsTurned s under after → next ≤ GREATEST_NAME → ((k : ℕ) → after < k → k < next → published_at s k ≡ None)
    → (new : ℕ → List ℕ) (p : Text) → programs_of s next ≡ Some p → AddsCaller under new next (calls_of p) → IsTurned s new next
turned_more s under after next turned up between new p has adds = record {
  named = up;
  sound = λ to from there.
      elim ((adds to from).0 there) [
        | inl h ↦ turned.sound to from h
        | inr call ↦ subst (λ k. CallsName (programs_of s) k to) (sym call.0) (p, has, call.1)
      ];
  whole = up_to_next (λ from. (to : ℕ) → CallsName (programs_of s) from to → Contains (new to) from) after
      (λ from low le to call. (adds to from).1 (inl (turned.whole from low le to call))) next
      (λ k above below to call. absurd (not_there s k (between k above below) to (one_call (programs_of s) k to call)))
      (λ to call. (adds to next).1 (inr (refl, subst (λ t. Contains (calls_of t) to) (the_same call.0 p (sym call.1 ∙ has)) call.2)));
}
  where
    the_same : (o p : Text) → Some o ≡ Some p → o ≡ p
    the_same o p e = cc
