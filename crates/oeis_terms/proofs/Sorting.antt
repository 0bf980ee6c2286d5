-- Rows in any order, and the same rows in ascending order of name.
use Rattle.std.proofs.Common.{◌≡◌, ℕ, zero, suc, ◌+◌, ◌<◌, ◌≤◌, Bool, true, false, cond, eqb, ltb, List, [], ◌∷◌, length, get_or, refl, sym, ap, ◌∙◌, arith}
use Rattle.std.specs.Prelude.{◌==◌, count_by, sum_by}
use Rattle.std.specs.List.{AllByRecursion, Contains}
use Rattle.std.specs.List.Sorted.{IsPermutation, IsNonDecreasingBy}
use Rattle.std.proofs.lemmas.Bool.Decides.{nat_tests}
use Rattle.std.proofs.lemmas.List.Sums.{sum_by-cons}
use Rattle.std.proofs.lemmas.List.Sorted.{IsPermutation-refl, IsPermutation-sym, IsPermutation-cons, IsPermutation-trans, IsPermutation-middle, Contains-permutation, sum_by-IsPermutation}
use Rattle.oeis_terms.specs.Table.{Row, HasAscendingNames, NamesDiffer, put, by_name}
use Rattle.oeis_terms.proofs.Ascending.{below_at}

abbrev one_named : ℕ → Row → ℕ
one_named name r = cond (r.0 == name) 1 0

-- ---- names that differ

NamesDiffer-tail : (r : Row) (rs : List Row) → NamesDiffer (r ∷ rs) → NamesDiffer rs
NamesDiffer-tail r rs h name = omega (arith, h name, sum_by-cons (one_named name) r rs)

pub NamesDiffer-permutation : (xs ys : List Row) → IsPermutation xs ys → NamesDiffer xs → NamesDiffer ys
NamesDiffer-permutation xs ys perm h name = omega (arith, h name, sum_by-IsPermutation (one_named name) xs ys perm)

itself : (n : ℕ) → eqb n n ≡ true
itself n = grind (arith, nat_tests)

none_else : (r : Row) (rs : List Row) → NamesDiffer (r ∷ rs) → count_by (λ s. s.0 == r.0) rs ≡ 0
none_else r rs h =
    let all : sum_by (one_named r.0) (r ∷ rs) ≡ one_named r.0 r + sum_by (one_named r.0) rs = sum_by-cons (one_named r.0) r rs in
    let one : one_named r.0 r ≡ 1 = rw (itself r.0) refl in
    omega (arith, h r.0, all, one)

is_other : (b : Bool) → ◌≡◌ {A = ℕ} (cond b 1 0) 0 → b ≡ false
is_other true h = absurd (omega arith)
is_other false h = refl

none_in_tail : (n : ℕ) (r : Row) (rs : List Row) → count_by (λ s. s.0 == n) (r ∷ rs) ≡ 0 → (eqb r.0 n ≡ false) × (count_by (λ s. s.0 == n) rs ≡ 0)
none_in_tail n r rs e =
    let all : sum_by (one_named n) (r ∷ rs) ≡ one_named n r + sum_by (one_named n) rs = sum_by-cons (one_named n) r rs in
    let none : one_named n r ≡ 0 = omega (arith, e, all) in
    (is_other (eqb r.0 n) none, omega (arith, e, all))

differs_at : (n : ℕ) (rows : List Row) → count_by (λ s. s.0 == n) rows ≡ 0 → (k : ℕ) (d : Row) → k < length rows → eqb (get_or rows k d).0 n ≡ false
differs_at n [] e k d lt = absurd (omega arith)
differs_at n (r ∷ rs) e zero d lt = (none_in_tail n r rs e).0
differs_at n (r ∷ rs) e (suc k) d lt = differs_at n rs (none_in_tail n r rs e).1 k d (omega arith)

-- ---- rows in order by a sort

below_all : (n : ℕ) (rows : List Row) → ((k : ℕ) (d : Row) → k < length rows → n < (get_or rows k d).0) → AllByRecursion (λ s. n < s.0) rows
below_all n [] h = tt
below_all n (r ∷ rs) h = (h zero r (omega arith), below_all n rs (λ k d lt. h (suc k) d (omega arith)))

strictly : (m n : ℕ) → m ≤ n → eqb n m ≡ false → m < n
strictly m n le other = grind (arith, nat_tests)

pub ascending_sorted : (ys : List Row) → IsNonDecreasingBy (λ (r : Row). r.0) ys → NamesDiffer ys → HasAscendingNames ys
ascending_sorted [] h names = tt
ascending_sorted (y ∷ ys) h names = (
  below_all y.0 ys (λ k d lt. strictly y.0 (get_or ys k d).0 (h zero (suc k) d (omega arith) (omega arith)) (differs_at y.0 ys (none_else y ys names) k d lt)),
  ascending_sorted ys (λ i j d le lt. h (suc i) (suc j) d (omega arith) (omega arith)) (NamesDiffer-tail y ys names),
)

-- ---- rows in order by their definition

put_permutation : (b : Bool) (r x : Row) (xs ys : List Row) → IsPermutation (r ∷ xs) ys → IsPermutation (r ∷ x ∷ xs) (cond b (r ∷ x ∷ xs) (x ∷ ys))
put_permutation true r x xs ys h = IsPermutation-refl (r ∷ x ∷ xs)
put_permutation false r x xs ys h =
    IsPermutation-trans (r ∷ x ∷ xs) (x ∷ r ∷ xs) (x ∷ ys) (IsPermutation-sym (x ∷ r ∷ xs) (r ∷ x ∷ xs) (IsPermutation-middle (x ∷ []) r xs)) (IsPermutation-cons x (r ∷ xs) ys h)

put-permutation : (r : Row) (rows : List Row) → IsPermutation (r ∷ rows) (put r rows)
put-permutation r [] = IsPermutation-refl (r ∷ [])
put-permutation r (x ∷ xs) = put_permutation (ltb r.0 x.0) r x xs (put r xs) (put-permutation r xs)

pub by_name-permutation : (rows : List Row) → IsPermutation rows (by_name rows)
by_name-permutation [] = IsPermutation-refl []
by_name-permutation (r ∷ rs) = IsPermutation-trans (r ∷ rs) (r ∷ by_name rs) (put r (by_name rs)) (IsPermutation-cons r rs (by_name rs) (by_name-permutation rs)) (put-permutation r (by_name rs))

below_less : (m n : ℕ) (rows : List Row) → m < n → AllByRecursion (λ (s : Row). n < s.0) rows → AllByRecursion (λ (s : Row). m < s.0) rows
below_less m n [] lt h = tt
below_less m n (r ∷ rs) lt h = let head = h.0 in (omega arith, below_less m n rs lt h.1)

below_put : (n : ℕ) (r : Row) (rows : List Row) → n < r.0 → AllByRecursion (λ (s : Row). n < s.0) rows → AllByRecursion (λ (s : Row). n < s.0) (put r rows)
below_put n r [] lt h = (lt, tt)
below_put n r (x ∷ xs) lt h = in_case (ltb r.0 x.0) (below_put n r xs lt h.1)
  where
    in_case : (b : Bool) → AllByRecursion (λ (s : Row). n < s.0) (put r xs) → AllByRecursion (λ (s : Row). n < s.0) (cond b (r ∷ x ∷ xs) (x ∷ put r xs))
    in_case true rest = (lt, h)
    in_case false rest = (h.0, rest)

more : (m n : ℕ) → ltb m n ≡ false → eqb n m ≡ false → n < m
more m n not_less other = grind (arith, nat_tests)

less : (m n : ℕ) → ltb m n ≡ true → m < n
less m n test = grind (arith, nat_tests)

ascending_put : (r : Row) (rows : List Row) → HasAscendingNames rows → count_by (λ s. s.0 == r.0) rows ≡ 0 → HasAscendingNames (put r rows)
ascending_put r [] h e = (tt, tt)
ascending_put r (x ∷ xs) h e = in_case (ltb r.0 x.0) refl (ascending_put r xs h.1 (none_in_tail r.0 x xs e).1)
  where
    in_case : (b : Bool) → ltb r.0 x.0 ≡ b → HasAscendingNames (put r xs) → HasAscendingNames (cond b (r ∷ x ∷ xs) (x ∷ put r xs))
    in_case true test rest = let lt = less r.0 x.0 test in ((lt, below_less r.0 x.0 xs lt h.0), h)
    in_case false test rest = (below_put x.0 r xs (more r.0 x.0 test (none_in_tail r.0 x xs e).0) h.0, rest)

pub ascending_by_name : (rows : List Row) → NamesDiffer rows → HasAscendingNames (by_name rows)
ascending_by_name [] names = tt
ascending_by_name (r ∷ rs) names =
    ascending_put r (by_name rs) (ascending_by_name rs (NamesDiffer-tail r rs names)) (sum_by-IsPermutation (one_named r.0) rs (by_name rs) (by_name-permutation rs) ∙ none_else r rs names)

-- ---- the two are the same

heads : (x y : Row) (xs ys : List Row) → AllByRecursion (λ (s : Row). x.0 < s.0) xs → AllByRecursion (λ (s : Row). y.0 < s.0) ys
    → (j : ℕ) → j < length (y ∷ ys) → get_or (y ∷ ys) j x ≡ x → (i : ℕ) → i < length (x ∷ xs) → get_or (x ∷ xs) i y ≡ y → x ≡ y
heads x y xs ys p q zero lt e i lt' e' = sym e
heads x y xs ys p q (suc j) lt e zero lt' e' = e'
heads x y xs ys p q (suc j) lt e (suc i) lt' e' =
    let below_x : y.0 < x.0 = rw e at (below_at y.0 ys q j x (omega arith)) in
    let below_y : x.0 < y.0 = rw e' at (below_at x.0 xs p i y (omega arith)) in
    absurd (omega arith)

tails : (x y : Row) (xs ys : List Row) → x ≡ y → AllByRecursion (λ (s : Row). x.0 < s.0) xs → ((r : Row) → Contains (x ∷ xs) r → Contains (y ∷ ys) r) → (r : Row) → Contains xs r → Contains ys r
tails x y xs ys same p within r m =
    let there = within r (suc m.0, omega (arith, m.1), m.2) in
    behind there.0 there.1 there.2
  where
    behind : (j : ℕ) → j < length (y ∷ ys) → get_or (y ∷ ys) j r ≡ r → Contains ys r
    behind zero lt e =
        let above : x.0 < r.0 = rw m.2 at (below_at x.0 xs p m.0 r m.1) in
        let equal : x.0 ≡ r.0 = ap (λ (s : Row). s.0) (same ∙ e) in
        absurd (omega arith)
    behind (suc j) lt e = (j, omega arith, e)

pub same_ascending : (xs ys : List Row) → HasAscendingNames xs → HasAscendingNames ys → ((r : Row) → Contains xs r → Contains ys r) → ((r : Row) → Contains ys r → Contains xs r) → xs ≡ ys
same_ascending [] [] p q to from = refl
same_ascending [] (y ∷ ys) p q to from = let there = from y (zero, omega arith, refl) in absurd (omega (arith, there.1))
same_ascending (x ∷ xs) [] p q to from = let there = to x (zero, omega arith, refl) in absurd (omega (arith, there.1))
same_ascending (x ∷ xs) (y ∷ ys) p q to from =
    let there = to x (zero, omega arith, refl) in
    let back = from y (zero, omega arith, refl) in
    let head : x ≡ y = heads x y xs ys p.0 q.0 there.0 there.1 there.2 back.0 back.1 back.2 in
    let tail : xs ≡ ys = same_ascending xs ys p.1 q.1 (tails x y xs ys head p.0 to) (tails y x ys xs (sym head) q.0 from) in
    ap (λ (s : Row). s ∷ xs) head ∙ ap (λ (rows : List Row). y ∷ rows) tail

pub sorted_is_by_name : (xs ys : List Row) → IsPermutation xs ys → HasAscendingNames ys → NamesDiffer xs → ys ≡ by_name xs
sorted_is_by_name xs ys perm rises names =
    let defined = by_name-permutation xs in
    same_ascending ys (by_name xs) rises (ascending_by_name xs names)
    (λ r m. Contains-permutation xs (by_name xs) r defined (Contains-permutation ys xs r (IsPermutation-sym xs ys perm) m))
    (λ r m. Contains-permutation xs ys r perm (Contains-permutation (by_name xs) xs r (IsPermutation-sym xs (by_name xs) defined) m))
