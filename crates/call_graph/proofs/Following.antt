-- Calls of a text that are followed one by one.
use Rattle.std.proofs.Common.{ℕ, zero, suc, ◌+◌, ◌≡◌, ◌⊎◌, ◌<◌, ◌≤◌, inl, inr, refl, sym, ap, subst, ◌∙◌, Some, None, List, [], ◌∷◌, Contains, drop, length, get_or, arith}
use Rattle.std.proofs.lemmas.List.{drop_all, at_drop_more}
use Rattle.loda_syntax.specs.declared.instr.Operand.{Operand}
use Rattle.loda_syntax.specs.declared.instr.Instr.{Instr}
use Rattle.loda_syntax.specs.declared.instr.Instr.TheVariants.{Arith, Clear, LoopStart, LoopEnd, Call}
use Rattle.loda_syntax.specs.Programs.{Text}
use Rattle.loda_semantics.specs.Exec.{Library}
use Rattle.program_store.specs.Graph.{called_by}
use Rattle.call_graph.specs.Closure.{CallsName}
use Rattle.call_graph.specs.Groups.{IsLeft, IsMet, IsKnown, IsGrouped, IsFollowed}
use Rattle.call_graph.proofs.Joining.{met-fewer, joined}
use Rattle.call_graph.proofs.Sets.{cons-cases, cons-here, cons-more}

-- what is called from a place of the text on is called by the text
pub called-drop : (p : List Instr) (i n : ℕ) → Contains (called_by (drop i p)) n → Contains (called_by p) n
called-drop p zero n h = h
called-drop [] (suc i) n h = h
called-drop (Call t q ∷ p) (suc i) n h = cons-more q (called_by p) n (called-drop p i n h)
called-drop (Arith v t s ∷ p) (suc i) n h = called-drop p i n h
called-drop (Clear c k ∷ p) (suc i) n h = called-drop p i n h
called-drop (LoopStart c k ∷ p) (suc i) n h = called-drop p i n h
called-drop (LoopEnd ∷ p) (suc i) n h = called-drop p i n h

-- the instruction at the place is a call
pub call-at : (p : List Instr) (i : ℕ) (d : Instr) (t : Operand) (q : ℕ) → i < length p → get_or p i d ≡ Call t q → called_by (drop i p) ≡ q ∷ called_by (drop (i + 1) p)
call-at p i d t q lt is = at_drop_more called_by p i d lt ∙ ap (λ (x : Instr). called_by (x ∷ drop (i + 1) p)) is

-- an instruction that is no call
pub skip-other : (x : Instr) (rest : List Instr) → ((t : Operand) (q : ℕ) → x ≡ Call t q → ⊥) → called_by (x ∷ rest) ≡ called_by rest
skip-other (Call t q) rest other = absurd (other t q refl)
skip-other (Arith v t s) rest other = refl
skip-other (Clear c k) rest other = refl
skip-other (LoopStart c k) rest other = refl
skip-other LoopEnd rest other = refl

pub other-at : (p : List Instr) (i : ℕ) (d : Instr) → i < length p → ((t : Operand) (q : ℕ) → get_or p i d ≡ Call t q → ⊥) → called_by (drop i p) ≡ called_by (drop (i + 1) p)
other-at p i d lt other = at_drop_more called_by p i d lt ∙ skip-other (get_or p i d) (drop (i + 1) p) other

pub called-at : (p : List Instr) (i : ℕ) (d : Instr) (t : Operand) (q : ℕ) → i < length p → get_or p i d ≡ Call t q → Contains (called_by p) q
called-at p i d t q lt is = called-drop p i q (subst (λ l. Contains l q) (sym (call-at p i d t q lt is)) (cons-here q (called_by (drop (i + 1) p))))

module _ (lib : Library) (done stack starts : List ℕ) (place : ℕ) (text : Text) (has : lib (get_or stack place 0) ≡ Some text) where
  abbrev from : ℕ
  from = get_or stack place 0

  the_same : (o : Text) → Some text ≡ Some o → text ≡ o
  the_same o e = cc

  -- the calls that are left, by the text at hand
  left-text : (at n : ℕ) → IsLeft lib from at n → Contains (called_by (drop at text)) n
  left-text at n left = subst (λ (t : Text). Contains (called_by (drop at t)) n) (sym (the_same left.0 (sym has ∙ left.1))) left.2

  -- the calls that are left go on after an instruction that is no call
  pub followed-other : (at : ℕ) → called_by (drop at text) ≡ called_by (drop (at + 1) text) → IsFollowed lib done stack starts place at
      → IsFollowed lib done stack starts place (at + 1)
  followed-other at same followed n call =
      elim (followed n call) [
        | inl met ↦ inl met
        | inr left ↦ inr (text, has, subst (λ l. Contains l n) same (left-text at n left))
      ]

  module _ (at name : ℕ) (here : called_by (drop at text) ≡ name ∷ called_by (drop (at + 1) text)) where
    pub called-here : CallsName lib from name
    called-here = (text, has, called-drop text at name (subst (λ l. Contains l name) (sym here) (cons-here name (called_by (drop (at + 1) text)))))

    -- up to a name, which is left with the calls behind it
    pub followed-up_to : IsFollowed lib done stack starts place at
        → (n : ℕ) → CallsName lib from n → IsMet done stack starts place n ⊎ ((name ≡ n) ⊎ IsLeft lib from (at + 1) n)
    followed-up_to followed n call =
        elim (followed n call) [
          | inl met ↦ inl met
          | inr left ↦
              elim (cons-cases name (called_by (drop (at + 1) text)) n (subst (λ l. Contains l n) here (left-text at n left))) [
                | inl same ↦ inr (inl same)
                | inr h ↦ inr (inr (text, has, h))
              ]
        ]

    -- past a name that is met
    module _ (new : List ℕ) (fewer : (b : ℕ) → Contains new b → Contains starts b) where
      followed-met : IsMet done stack new place name → IsFollowed lib done stack starts place at → IsFollowed lib done stack new place (at + 1)
      followed-met met-name followed n call =
          elim (followed-up_to followed n call) [
            | inl met ↦ inl (met-fewer lib done stack starts new fewer place n met)
            | inr rest ↦ elim rest [ inl same ↦ inl (subst (λ q. IsMet done stack new place q) same met-name) | inr left ↦ inr left ]
          ]

    module _ (within : place < length stack) (grouped : IsGrouped lib done stack starts) (last : (b : ℕ) → Contains starts b → b ≤ place)
        (followed : IsFollowed lib done stack starts place at) where
      pub known-fewer : (new : List ℕ) → IsKnown done stack starts new name → (b : ℕ) → Contains new b → Contains starts b
      known-fewer new known b there =
          elim known [
            | inl old ↦ subst (λ l. Contains l b) old.1 there
            | inr k ↦ (k.3.cut b there).0
          ]

      pub known-grouped : (new : List ℕ) → IsKnown done stack starts new name → IsGrouped lib done stack new
      known-grouped new known =
          elim known [
            | inl old ↦ subst (λ l. IsGrouped lib done stack l) (sym old.1) grouped
            | inr k ↦ joined lib done stack starts new grouped place k.0 within k.1 last (subst (λ q. CallsName lib from q) (sym k.2) called-here) k.3
          ]

      pub known-followed : (new : List ℕ) → IsKnown done stack starts new name → IsFollowed lib done stack new place (at + 1)
      known-followed new known = followed-met new (known-fewer new known) (met known) followed
        where
          met : IsKnown done stack starts new name → IsMet done stack new place name
          met known =
              elim known [
                | inl old ↦ inl old.0
                | inr k ↦ inr (k.0, k.1, k.2, λ b there le. (k.3.cut b there).1)
              ]

  -- at the end of the text nothing is left
  pub followed-all : (at : ℕ) → length text ≤ at → IsFollowed lib done stack starts place at → (n : ℕ) → CallsName lib from n → IsMet done stack starts place n
  followed-all at le followed n call =
      elim (followed n call) [
        | inl met ↦ met
        | inr left ↦ absurd (none (subst (λ (t : Text). Contains (called_by t) n) (drop_all at text le) (left-text at n left)))
      ]
    where
      none : Contains (called_by []) n → ⊥
      none there = absurd (omega arith)

-- a name with no program calls nothing
pub followed-none : (lib : Library) (done stack starts : List ℕ) (place : ℕ) → lib (get_or stack place 0) ≡ None → (n : ℕ) → CallsName lib (get_or stack place 0) n → IsMet done stack starts place n
followed-none lib done stack starts place none n call = nothing (sym none ∙ call.1)
  where
    nothing : {A : Type 0} → None ≡ Some call.0 → A
    nothing h = absurd cc
