-- Reading the terms of a row, as a loop does.
use Rattle.std.proofs.Common.{◌≡◌, ℕ, ◌+◌, Bool, true, false, cond, not, ◌&&◌, List, [], ◌∷◌, ◌++◌, length, refl, sym, ap, ◌∙◌, arith}
use Rattle.std.specs.Prelude.{ℤ, Option, Some, None, Result, Ok, Err}
use Rattle.std.specs.List.{list_all}
use Rattle.std.specs.Option.{option_map}
use Rattle.std.proofs.lemmas.List.Sums.{take_while-cons}
use Rattle.checked_numbers.specs.Numbers.{is_number}
use Rattle.oeis_terms.specs.declared.error.TermsKind.{TermsKind}
use Rattle.oeis_terms.specs.declared.error.TermsKind.TheVariants.{BadTerm}
use Rattle.oeis_terms.specs.Cut.{first_cut}
use Rattle.oeis_terms.specs.Numbers.{integer_of, as_number}
use Rattle.oeis_terms.specs.Line.{term_at, integers_from, usable, usable_terms}
use Rattle.oeis_terms.specs.Reading.{kept_after}
use Rattle.oeis_terms.proofs.Items.{with_front, with_none, one_item, bad_item, no_item}

-- whether a term is past the number range, and the terms before the first one that is
abbrev pub kept_of : List ℤ → Bool × List ℤ
kept_of terms = (not (list_all is_number terms), usable terms)

-- ---- one more term

abbrev in_front : ℤ → Bool × List ℤ → Bool × List ℤ
in_front z kept = (kept.0, z ∷ kept.1)

one_kept : (b : Bool) (z : ℤ) → kept_after false [] (cond b (Some z) None) ≡ (not (b && true), cond b (z ∷ []) [])
one_kept true z = refl
one_kept false z = refl

kept_in_front : (wide : Bool) (x : ℤ) (kept : List ℤ) (term : Option ℤ) → kept_after wide (x ∷ kept) term ≡ in_front x (kept_after wide kept term)
kept_in_front wide x kept None = refl
kept_in_front true x kept (Some z) = refl
kept_in_front false x kept (Some z) = refl

nothing_kept : (term : Option ℤ) → kept_after true [] term ≡ (true, [])
nothing_kept None = refl
nothing_kept (Some z) = refl

-- the list after x, where the rest of it gives w and ts, and gives w' and ts' after one more term
more_kept : (b : Bool) (x : ℤ) (term : Option ℤ) (w w' : Bool) (ts ts' : List ℤ) → kept_after (not w) ts term ≡ (not w', ts')
    → kept_after (not (b && w)) (cond b (x ∷ ts) []) term ≡ (not (b && w'), cond b (x ∷ ts') [])
more_kept true x term w w' ts ts' e = kept_in_front (not w) x ts term ∙ ap (in_front x) e
more_kept false x term w w' ts ts' e = nothing_kept term

pub kept_of-push : (terms : List ℤ) (z : ℤ) → kept_after (not (list_all is_number terms)) (usable terms) (as_number z) ≡ kept_of (terms ++ z ∷ [])
kept_of-push [] z = one_kept (is_number z) z ∙ ap (λ (ts : List ℤ). (not (is_number z && true), ts)) (sym (take_while-cons is_number z []))
kept_of-push (x ∷ xs) z =
    ap (λ (ts : List ℤ). kept_after (not (is_number x && list_all is_number xs)) ts (as_number z)) (take_while-cons is_number x xs)
    ∙ more_kept (is_number x) x (as_number z) (list_all is_number xs) (list_all is_number (xs ++ z ∷ [])) (usable xs) (usable (xs ++ z ∷ [])) (kept_of-push xs z)
    ∙ ap (λ (ts : List ℤ). (not (is_number x && list_all is_number (xs ++ z ∷ [])), ts)) (sym (take_while-cons is_number x (xs ++ z ∷ [])))

-- ---- the loop

-- the terms so far were read, and what is left stands in this column
pub record HasKept (line rest : List ℕ) (column : ℕ) (is_wide : Bool) (kept : List ℤ) : Type 0 where
  pub so_far : List ℤ
  pub place : column + length rest ≡ 10 + length line
  pub read : with_front so_far (integers_from column rest) ≡ integers_from 10 line
  pub terms : (is_wide, kept) ≡ kept_of so_far

pub start : (line : List ℕ) (kept : List ℤ) → kept ≡ [] → HasKept line line 10 false kept
start line kept e = record { so_far = []; place = refl; read = with_none (integers_from 10 line); terms = ap (λ (ts : List ℤ). (false, ts)) e }

pub has_integer : (o : Option ℤ) (term : Option ℤ) → Some term ≡ option_map as_number o → (z : ℤ) × (o ≡ Some z) × (term ≡ as_number z)
has_integer None term e = absurd cc
has_integer (Some z) term e = (z, refl, cc)

pub has_none : (o : Option ℤ) → None ≡ option_map as_number o → o ≡ None
has_none None e = refl
has_none (Some z) e = absurd cc

pub one_term : (line rest : List ℕ) (column : ℕ) (is_wide : Bool) (kept : List ℤ) (piece after : List ℕ) (z : ℤ) (next : ℕ) (wide : Bool) (more : List ℤ) → HasKept line rest column is_wide kept
    → first_cut 44 rest ≡ Some (piece, after) → length piece + length after + 1 ≡ length rest → integer_of piece ≡ Some z → next ≡ column + (length piece + 1)
    → (wide, more) ≡ kept_after is_wide kept (as_number z) → HasKept line after next wide more
one_term line rest column is_wide kept piece after z next wide more h cut size is there now =
    let p = h.place in
    record {
      so_far = h.so_far ++ z ∷ [];
      place = omega arith;
      read = rw there (one_item 44 _ _ h.so_far column rest piece after z _ cut (ap (term_at column) is) h.read);
      terms = now ∙ ap (λ (k : Bool × List ℤ). kept_after k.0 k.1 (as_number z)) h.terms ∙ kept_of-push h.so_far z;
    }

pub bad_term : (line rest : List ℕ) (column : ℕ) (is_wide : Bool) (kept : List ℤ) (piece after : List ℕ) → HasKept line rest column is_wide kept
    → first_cut 44 rest ≡ Some (piece, after) → integer_of piece ≡ None → usable_terms line ≡ Err (BadTerm column)
bad_term line rest column is_wide kept piece after h cut is =
    let fault : integers_from 10 line ≡ Err (BadTerm column) = bad_item 44 _ _ h.so_far column rest piece after _ _ cut (ap (term_at column) is) h.read in
    rw fault refl

pub no_more : (line rest : List ℕ) (column : ℕ) (is_wide : Bool) (kept : List ℤ) → HasKept line rest column is_wide kept → first_cut 44 rest ≡ None → usable_terms line ≡ Ok kept
no_more line rest column is_wide kept h cut =
    let all : integers_from 10 line ≡ Ok h.so_far = no_item 44 _ _ h.so_far column rest _ cut h.read in
    let read : Bool × List ℤ → Result (List ℤ) TermsKind = λ k. Ok k.1 in
    rw all (ap read (sym h.terms))
