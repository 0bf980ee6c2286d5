-- Cutting a list at the first element that passes a test, by the place that `position` finds.
use Rattle.std.proofs.Common.{◌≡◌, ◌<◌, ◌≤◌, ◌+◌, ◌-◌, ℕ, suc, List, [], ◌∷◌, length, take, drop, Bool, true, false, not, cond, nat_lt, refl, arith, subst}
use Rattle.std.specs.Prelude.{Some, None, position}
use Rattle.std.specs.List.{slice_split, before_first, after_first, position_or_len, onto_first}
use Rattle.std.proofs.lemmas.Bool.{ltb-true, ltb-false}
use Rattle.std.proofs.lemmas.List.{take_all, drop_all, length-drop}
use Rattle.std.proofs.lemmas.List.Splits.{slice_split_first}
use Rattle.loda_syntax.specs.Cuts.{IsFirstPass, IsUncut}

found : (b : Bool) (k i : ℕ) → cond b (Some k) None ≡ Some i → (b ≡ true) × (k ≡ i)
found true k i e = (refl, cc)
found false k i e = absurd cc

not_found : (b : Bool) (k : ℕ) → cond b (Some k) None ≡ None → b ≡ false
not_found true k e = absurd cc
not_found false k e = refl

cut_at_place : (p : ℕ → Bool) (xs : List ℕ) → position_or_len p xs < length xs → IsFirstPass p xs (before_first p xs) (after_first p xs)
cut_at_place p xs lt = record {
  front_is = refl;
  rest_is = refl;
  parts = slice_split_first p xs 0 lt;
  shorter = omega (arith, length-drop (position_or_len p xs + 1) xs);
}

pub cut_here : (p : ℕ → Bool) (xs : List ℕ) (i : ℕ) → position p xs ≡ Some i → (i < length xs) × IsFirstPass p xs (take i xs) (drop (i + 1) xs)
cut_here p xs i e =
    let f = found (nat_lt (position_or_len p xs) (length xs)) (position_or_len p xs) i e in
    let lt = ltb-true (position_or_len p xs) (length xs) f.0 in
    subst (λ (j : ℕ). (j < length xs) × IsFirstPass p xs (take j xs) (drop (j + 1) xs)) f.1 (lt, cut_at_place p xs lt)

whole_step : (b : Bool) (p : ℕ → Bool) (x : ℕ) (xs : List ℕ) → suc (length xs) ≤ cond (not b) (1 + position_or_len p xs) 0 → (length xs ≤ position_or_len p xs → slice_split p xs ≡ xs ∷ []) → cond b ([] ∷ slice_split p xs) (onto_first x (slice_split p xs)) ≡ (x ∷ xs) ∷ []
whole_step true p x xs le rest = absurd (omega arith)
whole_step false p x xs le rest = rw (rest (omega arith)) refl

whole : (p : ℕ → Bool) (xs : List ℕ) → length xs ≤ position_or_len p xs → slice_split p xs ≡ xs ∷ []
whole p [] le = refl
whole p (x ∷ xs) le = whole_step (p x) p x xs le (whole p xs)

pub uncut : (p : ℕ → Bool) (xs : List ℕ) → position p xs ≡ None → IsUncut p xs
uncut p xs e =
    let le = ltb-false (position_or_len p xs) (length xs) (not_found (nat_lt (position_or_len p xs) (length xs)) (position_or_len p xs) e) in
    record {
      front_is = take_all (position_or_len p xs) xs le;
      rest_is = drop_all (position_or_len p xs + 1) xs (omega arith);
      parts = whole p xs le;
    }

pub rest_taken : (n : ℕ) (xs : List ℕ) → take (length xs - n) (drop n xs) ≡ drop n xs
rest_taken n xs = take_all (length xs - n) (drop n xs) (omega (arith, length-drop n xs))
