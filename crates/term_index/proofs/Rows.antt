-- Rows and their keys.
use Rattle.std.proofs.Common.{ℕ, zero, suc, ◌+◌, ◌<◌, ◌≡◌, ◌≢◌, refl, sym, ap, subst, ◌∙◌, arith, ℤ, pos, List, [], ◌∷◌, ◌++◌, length, get_or, take, map, filter, Bool, true, false, ◌==◌}
use Rattle.std.specs.Prelude.{if◌then◌else◌, Option, Some, None, unsigned_abs, slice_get, IfNone}
use Rattle.std.specs.Global.{Vec}
use Rattle.std.specs.List.{filter_map, cons_option}
use Rattle.std.specs.Ordering.{int_eq}
use Rattle.std.specs.Cmp.Lexicographic.{pointwise}
use Rattle.std.specs.Cmp.Rules.{signed_items}
use Rattle.std.proofs.lemmas.Option.{get_or_from_slice_get}
use Rattle.std.proofs.lemmas.List.{take_more, map-append, append-nil}
use Rattle.std.proofs.lemmas.List.Elements.{filter-append}
use Rattle.indexmap.specs.IndexMap.{IndexMap}
use Rattle.oeis_terms.specs.Table.{Row}
use Rattle.term_index.specs.declared.form.Form.{Form}
use Rattle.term_index.specs.declared.form.Match.{Match}
use Rattle.term_index.specs.Lines.{line_of}
use Rattle.term_index.specs.Keys.{line_key, terms_key}
use Rattle.term_index.specs.Matching.{shortened, equal_match, linear_match}
use Rattle.term_index.specs.Buckets.{under, has_key, AllNumbers, AreOfNumbers, AreUnderKeys, AreBuckets}
use Rattle.term_index.proofs.Found.{found-is}
use Rattle.term_index.proofs.Scaled.{key-of-line}
use Rattle.term_index.proofs.Firsts.{filter-first}

same-key : (key_of : List ℤ → ℕ) (key : ℕ) (row : Row) → key ≡ key_of row.1 → has_key key_of key row ≡ true
same-key key_of key row e = let h : (key_of row.1 == key) ≡ true = grind (arith, e) in h

other-key : (key_of : List ℤ → ℕ) (key : ℕ) (row : Row) → key ≢ key_of row.1 → has_key key_of key row ≡ false
other-key key_of key row ne = by_test (key_of row.1 == key) refl
  where
    by_test : (t : Bool) → (key_of row.1 == key) ≡ t → t ≡ false
    by_test true e = absurd (ne (let f : key ≡ key_of row.1 = grind arith in f))
    by_test false e = refl

equal-only : (form : Form) (wanted : List ℤ) (row : Row) → has_key terms_key (terms_key wanted) row ≡ false → equal_match form wanted row ≡ None
equal-only form wanted row e = by_test (pointwise int_eq row.1 wanted) refl
  where
    by_test : (t : Bool) → pointwise int_eq row.1 wanted ≡ t → ◌≡◌ {A = Option Match} (if t then Some (record { name = row.0; form = form }) else None) None
    by_test true f = absurd (let same : row.1 ≡ wanted = (signed_items row.1 wanted).0 f in let k = same-key terms_key (terms_key wanted) row (ap terms_key (sym same)) in cc)
    by_test false f = refl

-- the rows of these terms all have the key of the terms
pub equal-rows : (form : Form) (wanted : List ℤ) (key : ℕ) (bucket rows : List Row) → key ≡ terms_key wanted → bucket ≡ filter (has_key terms_key key) rows
    → filter_map (equal_match form wanted) bucket ≡ filter_map (equal_match form wanted) rows
equal-rows form wanted key bucket rows k b =
    ap (filter_map (equal_match form wanted)) (b ∙ ap (λ z. filter (has_key terms_key z) rows) k)
    ∙ filter-first (equal_match form wanted) (has_key terms_key (terms_key wanted)) rows (λ row e. equal-only form wanted row e)

positive : (a : ℤ) → a ≢ pos 0 → 0 < unsigned_abs a
positive (pos zero) ne = absurd (ne refl)
positive (pos (suc n)) ne = omega arith
positive a ne = omega arith

line-key : (values terms : List ℤ) (a b : ℤ) → line_of values terms ≡ Some (a, b) → line_key terms ≡ line_key values
line-key values terms a b e = let line = found-is values terms a b e in ap line_key line.terms_are ∙ key-of-line a b values (positive a line.a_not)

linear-only : (values : List ℤ) (row : Row) → has_key line_key (line_key values) row ≡ false → linear_match values row ≡ None
linear-only values row e = by_line (line_of values row.1) refl
  where
    by_line : (o : Option (ℤ × ℤ)) → line_of values row.1 ≡ o → linear_match values row ≡ None
    by_line None f = rw f refl
    by_line (Some l) f = absurd (let k = same-key line_key (line_key values) row (sym (line-key values row.1 l.0 l.1 f)) in cc)

-- the rows whose terms are a times the values and b all have the key of the values
pub linear-rows : (values : List ℤ) (key : ℕ) (bucket rows : List Row) → key ≡ line_key values → bucket ≡ filter (has_key line_key key) rows
    → filter_map (linear_match values) bucket ≡ filter_map (linear_match values) rows
linear-rows values key bucket rows k b =
    ap (filter_map (linear_match values)) (b ∙ ap (λ z. filter (has_key line_key z) rows) k)
    ∙ filter-first (linear_match values) (has_key line_key (line_key values)) rows (λ row e. linear-only values row e)

-- rows of numbers don't have terms that aren't all numbers
pub none-equal : (form : Form) (wanted : List ℤ) (rows : List Row) → AreOfNumbers rows → ¬ AllNumbers wanted → filter_map (equal_match form wanted) rows ≡ []
none-equal form wanted [] all not = refl
none-equal form wanted (row ∷ rows) all not = by_test (pointwise int_eq row.1 wanted) refl (none-equal form wanted rows all.1 not)
  where
    by_test : (t : Bool) → pointwise int_eq row.1 wanted ≡ t → filter_map (equal_match form wanted) rows ≡ []
        → cons_option (if t then Some (record { name = row.0; form = form }) else None) (filter_map (equal_match form wanted) rows) ≡ []
    by_test true f rest = absurd (let same : row.1 ≡ wanted = (signed_items row.1 wanted).0 f in not (subst AllNumbers same all.0))
    by_test false f rest = rest

all-append : (xs ys : List Row) → AreOfNumbers xs → AreOfNumbers ys → AreOfNumbers (xs ++ ys)
all-append [] ys h g = g
all-append (x ∷ xs) ys h g = (h.0, all-append xs ys h.1 g)

-- one row more under its key
one-under : {S : Type 0} (key_of : List ℤ → ℕ) (rows : List Row) (row : Row) (key : ℕ) (old new : IndexMap ℕ (Vec Row) S) → key ≡ key_of row.1
    → under new key ≡ under old key ++ row ∷ [] → ((other : ℕ) → other ≢ key → under new other ≡ under old other)
    → AreUnderKeys key_of rows old → AreUnderKeys key_of (rows ++ row ∷ []) new
one-under key_of rows row key old new key_is added others h other = by_key (other == key) refl
  where
    parted : filter (has_key key_of other) (rows ++ row ∷ []) ≡ filter (has_key key_of other) rows ++ filter (has_key key_of other) (row ∷ [])
    parted = filter-append (has_key key_of other) rows (row ∷ [])

    by_key : (t : Bool) → (other == key) ≡ t → under new other ≡ filter (has_key key_of other) (rows ++ row ∷ [])
    by_key true e =
        let same : other ≡ key = grind arith in
        let kept : has_key key_of other row ≡ true = same-key key_of other row (same ∙ key_is) in
        ap (under new) same ∙ added ∙ ap (λ k. under old k ++ row ∷ []) (sym same) ∙ ap (λ l. l ++ row ∷ []) (h other)
        ∙ ap (λ (b : Bool). filter (has_key key_of other) rows ++ (if b then row ∷ [] else [])) (sym kept) ∙ sym parted
    by_key false e =
        let apart : other ≢ key = grind arith in
        let left : has_key key_of other row ≡ false = other-key key_of other row (λ f. apart (f ∙ sym key_is)) in
        others other apart ∙ h other ∙ sym (append-nil (filter (has_key key_of other) rows))
        ∙ ap (λ (b : Bool). filter (has_key key_of other) rows ++ (if b then row ∷ [] else [])) (sym left) ∙ sym parted

-- what one step does to the rows under a key
pub record Adds {S : Type 0} (key_of : List ℤ → ℕ) (row : Row) (key : ℕ) (old new : IndexMap ℕ (Vec Row) S) : Type 0 where
  pub key_is : key ≡ key_of row.1
  pub added : under new key ≡ under old key ++ row ∷ []
  pub others : (other : ℕ) → other ≢ key → under new other ≡ under old other

-- one row more
pub one-more : {S : Type 0} (rows : List Row) (k : ℕ) (row : Row) (first : List ℤ) (key1 key2 : ℕ) (old1 new1 old2 new2 : IndexMap ℕ (Vec Row) S)
    → k < length rows → row ≡ get_or rows k row → first ≡ take 8 row.1 → AllNumbers first
    → Adds terms_key (row.0, first) key1 old1 new1 → Adds line_key (row.0, first) key2 old2 new2
    → AreBuckets (take k rows) old1 old2 → AreBuckets (take (k + 1) rows) new1 new2
one-more rows k row first key1 key2 old1 new1 old2 new2 lt at eight numbers a b h = record {
  by_terms = subst (λ rs. AreUnderKeys terms_key rs new1) (sym more) (one-under terms_key (map shortened (take k rows)) (row.0, first) key1 old1 new1 a.key_is a.added a.others h.by_terms);
  by_line = subst (λ rs. AreUnderKeys line_key rs new2) (sym more) (one-under line_key (map shortened (take k rows)) (row.0, first) key2 old2 new2 b.key_is b.added b.others h.by_line);
  numbers = subst AreOfNumbers (sym more) (all-append (map shortened (take k rows)) ((row.0, first) ∷ []) h.numbers (numbers, tt));
}
  where
    more : map shortened (take (k + 1) rows) ≡ map shortened (take k rows) ++ (row.0, first) ∷ []
    more = ap (map shortened) (take_more rows k row lt) ∙ map-append shortened (take k rows) (get_or rows k row ∷ [])
        ∙ ap (λ (r : Row). map shortened (take k rows) ++ shortened r ∷ []) (sym at) ∙ ap (λ (t : List ℤ). map shortened (take k rows) ++ (row.0, t) ∷ []) (sym eight)

pub row-at : (rows : List Row) (k : ℕ) (row : Row) → slice_get rows k ≡ Some row → row ≡ get_or rows k row
row-at rows k row e = sym (get_or_from_slice_get rows k row row e)

pub from-none : {X P : Type 0} (o : Option X) → o ≡ None → IfNone o P → P
from-none None e h = h
from-none (Some x) e h = absurd (cc)
