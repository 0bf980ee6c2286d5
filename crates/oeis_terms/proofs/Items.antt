-- Reading items one after the other, as a loop does.
use Rattle.std.proofs.Common.{◌≡◌, ℕ, List, [], ◌∷◌, ◌++◌, refl, sym, ap, ◌∙◌, append_assoc}
use Rattle.std.proofs.lemmas.List.{append-nil}
use Rattle.std.specs.Prelude.{Some, None, Result, Ok, Err}
use Rattle.oeis_terms.specs.Cut.{first_cut, Pieces, pieces}
use Rattle.text_parts.specs.Results.{◌>>=◌}
use Rattle.oeis_terms.specs.Items.{items_from}
use Rattle.oeis_terms.proofs.Lines.{cut_pieces, pieces-cut}

-- items that were read before, and what is still read
abbrev pub with_front : {A E : Type 0} → List A → Result (List A) E → Result (List A) E
with_front front read = read >>= λ xs. Ok (front ++ xs)

pub with_none : {A E : Type 0} (read : Result (List A) E) → with_front [] read ≡ read
with_none (Ok xs) = refl
with_none (Err e) = refl

module _ {A E : Type 0} (c : ℕ) (item : ℕ → List ℕ → Result A E) (after : ℕ → List ℕ → ℕ) where
  abbrev items : ℕ → List ℕ → Result (List A) E
  items place text = items_from item after place (pieces c text).ended

  regroup : (front : List A) (x : A) (read : Result (List A) E) → with_front front (read >>= λ xs. Ok (x ∷ xs)) ≡ with_front (front ++ x ∷ []) read
  regroup front x (Ok xs) = ap (λ (ys : List A). Ok ys) (sym (append_assoc front (x ∷ []) xs))
  regroup front x (Err e) = refl

  pub one_item : (front : List A) (place : ℕ) (rest piece left : List ℕ) (x : A) (all : Result (List A) E) → first_cut c rest ≡ Some (piece, left) → item place piece ≡ Ok x
      → with_front front (items place rest) ≡ all → with_front (front ++ x ∷ []) (items (after place piece) left) ≡ all
  unfolding items_from
  one_item front place rest piece left x all cut is so_far =
      let e : (pieces c rest).ended ≡ piece ∷ (pieces c left).ended = ap (λ (p : Pieces). p.ended) (pieces-cut c rest ∙ ap (cut_pieces c rest) cut) in
      let one : items place rest ≡ (items (after place piece) left >>= λ xs. Ok (x ∷ xs)) = rw (e, is) refl in
      sym (regroup front x (items (after place piece) left)) ∙ ap (with_front front) (sym one) ∙ so_far

  pub bad_item : (front : List A) (place : ℕ) (rest piece left : List ℕ) (fault : E) (all : Result (List A) E) → first_cut c rest ≡ Some (piece, left) → item place piece ≡ Err fault
      → with_front front (items place rest) ≡ all → all ≡ Err fault
  unfolding items_from
  bad_item front place rest piece left fault all cut is so_far =
      let e : (pieces c rest).ended ≡ piece ∷ (pieces c left).ended = ap (λ (p : Pieces). p.ended) (pieces-cut c rest ∙ ap (cut_pieces c rest) cut) in
      let one : items place rest ≡ Err fault = rw (e, is) refl in
      sym so_far ∙ ap (with_front front) one

  pub no_item : (front : List A) (place : ℕ) (rest : List ℕ) (all : Result (List A) E) → first_cut c rest ≡ None → with_front front (items place rest) ≡ all → all ≡ Ok front
  unfolding items_from
  no_item front place rest all cut so_far =
      let e : (pieces c rest).ended ≡ [] = ap (λ (p : Pieces). p.ended) (pieces-cut c rest ∙ ap (cut_pieces c rest) cut) in
      let one : items place rest ≡ Ok [] = rw e refl in
      sym so_far ∙ ap (with_front front) one ∙ ap (λ (ys : List A). Ok ys) (append-nil front)
