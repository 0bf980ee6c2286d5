-- Lists that names are put in.
use Rattle.std.proofs.Common.{ℕ, zero, suc, ◌≡◌, ◌<◌, ◌⊎◌, inl, inr, refl, sym, ap, subst, ◌∙◌, Bool, true, false, true≢false, ◌||◌, List, [], ◌∷◌, ◌++◌, Contains, take, drop, length, append_assoc, if◌then◌else◌, get_or, slice_get, Some, position, nat_eq, eqb-true, arith}
use Rattle.std.specs.List.{list_any, IsDistinct, AllByRecursion}
use Rattle.std.specs.Cmp.{nat_eq_equiv}
use Rattle.std.proofs.lemmas.Map.Keys.{IsDistinct-head, IsDistinct-tail}
use Rattle.std.proofs.lemmas.List.{append-nil}
use Rattle.std.proofs.lemmas.List.Quantifiers.{position-Some}
use Rattle.std.proofs.lemmas.Option.{slice_get-get_or}
use Rattle.std.proofs.lemmas.List.Elements.{Contains-append_left, Contains-append_cases, Contains-push_cases}
use Rattle.std.proofs.lemmas.Map.Views.{Contains-from_any, list_any-from_Contains, exact_unsigned_eq}
use Rattle.indexmap.specs.IndexSet.{insert_key, insert_all}
use Rattle.indexmap.proofs.CallerLemmas.{Contains-insert_key}

-- a name put in goes to the end, or is there
insert_key-grows : (ks : List ℕ) (k : ℕ) → (more : List ℕ) × (insert_key nat_eq ks k ≡ ks ++ more)
insert_key-grows ks k = by (list_any (nat_eq k) ks) refl
  where
    by : (b : Bool) → list_any (nat_eq k) ks ≡ b → (more : List ℕ) × (insert_key nat_eq ks k ≡ ks ++ more)
    by true e = ([], ap (λ c. if c then ks else ks ++ k ∷ []) e ∙ sym (append-nil ks))
    by false e = (k ∷ [], ap (λ c. if c then ks else ks ++ k ∷ []) e)

-- a name that is not there goes to the end
pub insert_key-new : (ks : List ℕ) (k : ℕ) → (Contains ks k → ⊥) → insert_key nat_eq ks k ≡ ks ++ k ∷ []
insert_key-new ks k new = by (list_any (nat_eq k) ks) refl
  where
    by : (b : Bool) → list_any (nat_eq k) ks ≡ b → insert_key nat_eq ks k ≡ ks ++ k ∷ []
    by true e = absurd (new (Contains-from_any exact_unsigned_eq k ks e))
    by false e = ap (λ c. if c then ks else ks ++ k ∷ []) e

pub insert_key-kept : (ks : List ℕ) (k q : ℕ) → Contains ks q → Contains (insert_key nat_eq ks k) q
insert_key-kept ks k q there = let g = insert_key-grows ks k in subst (λ l. Contains l q) (sym g.1) (Contains-append_left ks g.0 q there)

pub insert_key-has : (ks : List ℕ) (k : ℕ) → Contains (insert_key nat_eq ks k) k
insert_key-has ks k = Contains-insert_key nat_eq exact_unsigned_eq ks k

pub insert_key-cases : (ks : List ℕ) (k q : ℕ) → Contains (insert_key nat_eq ks k) q → Contains ks q ⊎ (k ≡ q)
insert_key-cases ks k q = by (list_any (nat_eq k) ks) refl
  where
    by : (b : Bool) → list_any (nat_eq k) ks ≡ b → Contains (insert_key nat_eq ks k) q → Contains ks q ⊎ (k ≡ q)
    by true e there = inl (subst (λ l. Contains l q) (ap (λ c. if c then ks else ks ++ k ∷ []) e) there)
    by false e there = Contains-push_cases ks k q (subst (λ l. Contains l q) (ap (λ c. if c then ks else ks ++ k ∷ []) e) there)

pub insert_key-take : (ks : List ℕ) (k : ℕ) → take (length ks) (insert_key nat_eq ks k) ≡ ks
insert_key-take ks k = let g = insert_key-grows ks k in ap (take (length ks)) g.1 ∙ take-front ks g.0
  where
    take-front : (xs ys : List ℕ) → take (length xs) (xs ++ ys) ≡ xs
    take-front [] ys = refl
    take-front (x ∷ xs) ys = ap (λ l. x ∷ l) (take-front xs ys)

pub insert_all-grows : (ks xs : List ℕ) → (more : List ℕ) × (insert_all nat_eq ks xs ≡ ks ++ more)
insert_all-grows ks [] = ([], sym (append-nil ks))
insert_all-grows ks (x ∷ xs) =
    let first = insert_key-grows ks x in
    let rest = insert_all-grows (insert_key nat_eq ks x) xs in
    (first.0 ++ rest.0, rest.1 ∙ ap (λ l. l ++ rest.0) first.1 ∙ append_assoc ks first.0 rest.0)

pub insert_all-kept : (ks xs : List ℕ) (q : ℕ) → Contains ks q → Contains (insert_all nat_eq ks xs) q
insert_all-kept ks xs q there = let g = insert_all-grows ks xs in subst (λ l. Contains l q) (sym g.1) (Contains-append_left ks g.0 q there)

pub cons-cases : (x : ℕ) (xs : List ℕ) (q : ℕ) → Contains (x ∷ xs) q → (x ≡ q) ⊎ Contains xs q
cons-cases x xs q there = elim (Contains-append_cases (x ∷ []) xs q there) [ inl h ↦ elim (Contains-push_cases [] x q h) [ inl none ↦ absurd (omega arith) | inr e ↦ inl e ] | inr h ↦ inr h ]

pub cons-here : (x : ℕ) (xs : List ℕ) → Contains (x ∷ xs) x
cons-here x xs = (0, omega arith, refl)

pub cons-more : (x : ℕ) (xs : List ℕ) (q : ℕ) → Contains xs q → Contains (x ∷ xs) q
cons-more x xs q h = (suc h.0, omega arith, h.2)

pub insert_all-has : (ks xs : List ℕ) (q : ℕ) → Contains xs q → Contains (insert_all nat_eq ks xs) q
insert_all-has ks [] q there = absurd (omega arith)
insert_all-has ks (x ∷ xs) q there =
    elim (cons-cases x xs q there) [
      | inl e ↦ insert_all-kept (insert_key nat_eq ks x) xs q (subst (Contains (insert_key nat_eq ks x)) e (insert_key-has ks x))
      | inr h ↦ insert_all-has (insert_key nat_eq ks x) xs q h
    ]

pub insert_all-cases : (ks xs : List ℕ) (q : ℕ) → Contains (insert_all nat_eq ks xs) q → Contains ks q ⊎ Contains xs q
insert_all-cases ks [] q there = inl there
insert_all-cases ks (x ∷ xs) q there =
    elim (insert_all-cases (insert_key nat_eq ks x) xs q there) [
      | inl h ↦ elim (insert_key-cases ks x q h) [ inl h ↦ inl h | inr e ↦ inr (subst (Contains (x ∷ xs)) e (cons-here x xs)) ]
      | inr h ↦ inr (cons-more x xs q h)
    ]

-- the place of a name that a search found
pub position-read : (k : ℕ) (ks : List ℕ) (i : ℕ) → position (nat_eq k) ks ≡ Some i → (i < length ks) × (get_or ks i 0 ≡ k)
position-read k ks i found =
    let at = position-Some (nat_eq k) ks i 0 found in
    (at.0, sym (eqb-true k (get_or ks i 0) at.1))

-- what was read at a place
pub read-at : (xs : List ℕ) (i x : ℕ) → i < length xs → slice_get xs i ≡ Some x → x ≡ get_or xs i 0
read-at xs i x lt read = the_same (get_or xs i 0) (sym read ∙ slice_get-get_or xs i 0 lt)
  where
    the_same : (y : ℕ) → Some x ≡ Some y → x ≡ y
    the_same y e = cc

-- names that are none of the list go to its end
pub insert_all-new : (ks xs : List ℕ) → IsDistinct nat_eq xs → ((q : ℕ) → Contains xs q → Contains ks q → ⊥) → insert_all nat_eq ks xs ≡ ks ++ xs
insert_all-new ks [] distinct new = sym (append-nil ks)
insert_all-new ks (x ∷ xs) distinct new =
    ap (λ l. insert_all nat_eq l xs) (insert_key-new ks x (new x (cons-here x xs))) ∙ insert_all-new (ks ++ x ∷ []) xs (IsDistinct-tail nat_eq x xs distinct) rest
    ∙ append_assoc ks (x ∷ []) xs
  where
    none : (ys : List ℕ) → AllByRecursion (λ y. nat_eq x y ≡ false) ys → list_any (nat_eq x) ys ≡ false
    none [] each = refl
    none (y ∷ ys) each = ap (λ b. b || list_any (nat_eq x) ys) each.0 ∙ none ys each.1

    apart : Contains xs x → ⊥
    apart h = true≢false (sym (list_any-from_Contains nat_eq_equiv x xs h) ∙ none xs (IsDistinct-head nat_eq x xs distinct))

    rest : (q : ℕ) → Contains xs q → Contains (ks ++ x ∷ []) q → ⊥
    rest q there old =
        elim (Contains-push_cases ks x q old) [
          | inl h ↦ new q (cons-more x xs q there) h
          | inr same ↦ apart (subst (Contains xs) (sym same) there)
        ]

pub distinct-drop : (n : ℕ) (xs : List ℕ) → IsDistinct nat_eq xs → IsDistinct nat_eq (drop n xs)
distinct-drop zero xs distinct = distinct
distinct-drop (suc n) [] distinct = distinct
distinct-drop (suc n) (x ∷ xs) distinct = distinct-drop n xs (IsDistinct-tail nat_eq x xs distinct)
