-- The entries of a store in ascending order of their names, from a name on.
use Rattle.std.proofs.Common.{ℕ, ◌≡◌, ◌<◌, ◌≤◌, ◌⊎◌, inl, inr, refl, sym, ap, ◌∙◌, Bool, true, false, T, ◌&&◌, List, [], ◌∷◌, ◌++◌, map, arith}
use Rattle.std.specs.Prelude.{nat_lt, filter, Some, None}
use Rattle.std.specs.List.{concat}
use Rattle.std.specs.Ordering.{nat_cmp, eq_by_cmp, is_lt}
use Rattle.std.specs.FinMap.{find, is_sorted, entries, entries_sorted, get-entries}
use Rattle.std.specs.FinMap.Entries.{below_all}
use Rattle.std.proofs.lemmas.Bool.Decides.{nat_tests}
use Rattle.program_store.specs.declared.published.Published.{Published}
use Rattle.text_parts.specs.Names.{IsName}
use Rattle.program_store.specs.Store.{Store, published_at, IsStore}
use Rattle.program_store.specs.StoreText.{published_text, store_text}

abbrev Entries : Type 0
Entries = List (ℕ × Published)

-- the names rise, and all are above this number
abbrev pub Rising : ℕ → Entries → Type 0
Rising low [] = Unit {0}
Rising low (e ∷ es) = (low < e.0) × Rising e.0 es

both : (a b : Bool) → T (a && b) → T a × T b
both true true h = (tt, tt)
both true false h = absurd h
both false b h = absurd h

less_is : (x y : ℕ) → T (is_lt (nat_cmp x y)) → x < y
less_is x y h = grind (arith, nat_tests)

rising_from : (low : ℕ) (es : Entries) → T (below_all nat_cmp low es) → T (is_sorted nat_cmp es) → Rising low es
rising_from low [] below sorted = tt
rising_from low (e ∷ es) below sorted =
    let b = both _ _ below in
    let s = both _ _ sorted in
    (less_is low e.0 b.0, rising_from e.0 es s.0 s.1)

-- ---- the value at a name

pub find_here : (q : ℕ) (e : ℕ × Published) (es : Entries) → q ≡ e.0 → find nat_cmp q (e ∷ es) ≡ Some e.1
find_here q e es h = let same : eq_by_cmp nat_cmp q e.0 ≡ true = grind (arith, nat_tests) in rw same refl

pub find_there : (q : ℕ) (e : ℕ × Published) (es : Entries) → (q ≡ e.0 → ⊥) → find nat_cmp q (e ∷ es) ≡ find nat_cmp q es
find_there q e es h = let other : eq_by_cmp nat_cmp q e.0 ≡ false = grind (arith, nat_tests) in rw other refl

pub rising_find : (low q : ℕ) (es : Entries) → Rising low es → q ≤ low → find nat_cmp q es ≡ None
rising_find low q [] rising le = refl
rising_find low q (e ∷ es) rising le = find_there q e es (λ same. absurd (omega (arith, rising.0))) ∙ rising_find e.0 q es rising.1 (omega (arith, rising.0))

-- ---- the entries above a name

abbrev pub above : ℕ → Entries → Entries
above low es = filter (λ e. nat_lt low e.0) es

above_in : (low : ℕ) (e : ℕ × Published) (es : Entries) → low < e.0 → above low (e ∷ es) ≡ e ∷ above low es
above_in low e es lt = let yes : nat_lt low e.0 ≡ true = grind (arith, nat_tests) in rw yes refl

above_out : (low : ℕ) (e : ℕ × Published) (es : Entries) → e.0 ≤ low → above low (e ∷ es) ≡ above low es
above_out low e es le = let no : nat_lt low e.0 ≡ false = grind (arith, nat_tests) in rw no refl

rising_above : (low a : ℕ) (es : Entries) → Rising low es → a ≤ low → above a es ≡ es
rising_above low a [] rising le = refl
rising_above low a (e ∷ es) rising le = above_in a e es (omega (arith, rising.0)) ∙ ap (λ (fs : Entries). e ∷ fs) (rising_above e.0 a es rising.1 (omega (arith, rising.0)))

by_test : (test : Bool) (a b : ℕ) → nat_lt a b ≡ test → (a < b) ⊎ (b ≤ a)
by_test true a b e = inl (grind (arith, nat_tests))
by_test false a b e = inr (grind (arith, nat_tests))

pub lt_or_le : (a b : ℕ) → (a < b) ⊎ (b ≤ a)
lt_or_le a b = by_test (nat_lt a b) a b refl

module _ (a : ℕ) (f : ℕ × Published) (fs : Entries) (rising : Rising f.0 fs) where
  module _ (n : ℕ) (e : Published) (lt : a < n) (found : find nat_cmp n (f ∷ fs) ≡ Some e) (none : (k : ℕ) → a < k → k < n → find nat_cmp k (f ∷ fs) ≡ None) where
    passed : f.0 ≤ a → above a fs ≡ (n, e) ∷ above n fs → above a (f ∷ fs) ≡ (n, e) ∷ above n (f ∷ fs)
    passed le rest = above_out a f fs le ∙ rest ∙ ap (λ (es : Entries). (n, e) ∷ es) (sym (above_out n f fs (omega arith)))

    between : {A : Type 0} → a < f.0 → f.0 < n → A
    between more less = let here = find_here f.0 f fs refl in let gone = none f.0 more less in absurd cc

    past : {A : Type 0} → n < f.0 → A
    past less = let there = find_there n f fs (λ same. absurd (omega arith)) in let gone = rising_find f.0 n fs rising (omega arith) in absurd cc

    here : a < f.0 → n ≡ f.0 → above a (f ∷ fs) ≡ (n, e) ∷ above n (f ∷ fs)
    here more same =
        let found_here = find_here n f fs same in
        let value : f.1 ≡ e = cc in
        above_in a f fs more
        ∙ ap (λ (es : Entries). f ∷ es) (rising_above f.0 a fs rising (omega arith))
        ∙ (λ i. (sym same i, value i) ∷ fs)
        ∙ ap (λ (es : Entries). (n, e) ∷ es) (sym (above_out n f fs (omega arith) ∙ rising_above f.0 n fs rising (omega arith)))

    at_place : (f.0 ≤ a → above a fs ≡ (n, e) ∷ above n fs) → (a < f.0) ⊎ (f.0 ≤ a) → (f.0 < n) ⊎ (n ≤ f.0) → (n < f.0) ⊎ (f.0 ≤ n) → above a (f ∷ fs) ≡ (n, e) ∷ above n (f ∷ fs)
    at_place rest (inr le) o p = passed le (rest le)
    at_place rest (inl more) (inl less) p = between more less
    at_place rest (inl more) (inr le) (inl less) = past less
    at_place rest (inl more) (inr le) (inr ge) = here more (omega arith)

  none_at : ((k : ℕ) → a < k → find nat_cmp k (f ∷ fs) ≡ None) → above a fs ≡ [] → (a < f.0) ⊎ (f.0 ≤ a) → above a (f ∷ fs) ≡ []
  none_at none rest (inl more) = let here = find_here f.0 f fs refl in let gone = none f.0 more in absurd cc
  none_at none rest (inr le) = above_out a f fs le ∙ rest

-- the entries above a name are the least of them and those above it
pub above_next : (low a n : ℕ) (e : Published) (es : Entries) → Rising low es → a < n → find nat_cmp n es ≡ Some e → ((k : ℕ) → a < k → k < n → find nat_cmp k es ≡ None) → above a es ≡ (n, e) ∷ above n es
above_next low a n e [] rising lt found none = absurd cc
above_next low a n e (f ∷ fs) rising lt found none =
    at_place a f fs rising.1 n e lt found none
    (λ le.
    above_next f.0 a n e fs rising.1 lt (sym (find_there n f fs (λ same. absurd (omega arith))) ∙ found) (λ k more less. sym (find_there k f fs (λ same. absurd (omega arith))) ∙ none k more less))
    (lt_or_le a f.0) (lt_or_le f.0 n) (lt_or_le n f.0)

-- none are above a name where there is no such name
pub above_all : (low a : ℕ) (es : Entries) → Rising low es → ((k : ℕ) → a < k → find nat_cmp k es ≡ None) → above a es ≡ []
above_all low a [] rising none = refl
above_all low a (f ∷ fs) rising none = none_at a f fs rising.1 none (above_all f.0 a fs rising.1 (λ k more. tail_none k more (lt_or_le f.0 k))) (lt_or_le a f.0)
  where
    tail_none : (k : ℕ) → a < k → (f.0 < k) ⊎ (k ≤ f.0) → find nat_cmp k fs ≡ None
    tail_none k more (inl past) = sym (find_there k f fs (λ same. absurd (omega arith))) ∙ none k more
    tail_none k more (inr le) = rising_find f.0 k fs rising.1 le

-- ---- a store's entries

pub published-find : (s : Store) (q : ℕ) → published_at s q ≡ find nat_cmp q (entries s)
published-find s q = get-entries s q

first_named : (es : Entries) → T (is_sorted nat_cmp es) → ((q : ℕ) (e : Published) → find nat_cmp q es ≡ Some e → IsName q) → Rising 0 es
first_named [] sorted named = tt
first_named (e ∷ es) sorted named = let s = both _ _ sorted in ((named e.0 e.1 (find_here e.0 e es refl)).0, rising_from e.0 es s.0 s.1)

-- the names of a store rise from 1 on
pub entries-rising : (s : Store) → IsStore s → Rising 0 (entries s)
entries-rising s kept = first_named (entries s) (entries_sorted s) (λ q e h. kept.named q e (published-find s q ∙ h))

abbrev pub text_above : Store → ℕ → List ℕ
text_above s a = concat (map published_text (above a (entries s)))

pub text_above-zero : (s : Store) → IsStore s → text_above s 0 ≡ store_text s
unfolding store_text
text_above-zero s kept = ap (λ (es : Entries). concat (map published_text es)) (rising_above 0 0 (entries s) (entries-rising s kept) (omega arith))

pub text_above-next : (s : Store) (a n : ℕ) (e : Published) → IsStore s → a < n → published_at s n ≡ Some e → ((k : ℕ) → a < k → k < n → published_at s k ≡ None) → text_above s a ≡ published_text (n, e) ++ text_above s n
text_above-next s a n e kept lt found none =
    ap (λ (es : Entries). concat (map published_text es))
    (above_next 0 a n e (entries s) (entries-rising s kept) lt (sym (published-find s n) ∙ found) (λ k more less. sym (published-find s k) ∙ none k more less))

pub text_above-none : (s : Store) (a : ℕ) → IsStore s → ((k : ℕ) → a < k → published_at s k ≡ None) → text_above s a ≡ []
text_above-none s a kept none = ap (λ (es : Entries). concat (map published_text es)) (above_all 0 a (entries s) (entries-rising s kept) (λ k more. sym (published-find s k) ∙ none k more))
