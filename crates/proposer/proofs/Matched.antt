-- The proposals of matches, one after the other, and that a match has a name.
use Rattle.std.proofs.Common.{ℕ, suc, ◌≡◌, ◌<◌, ◌≤◌, ◌+◌, ℤ, sym, ap, subst, ◌∙◌, List, [], ◌∷◌, ◌++◌, length, map, take, get_or, refl, Bool, true, false, if◌then◌else◌, arith, length-take, length-append}
use Rattle.std.specs.Prelude.{Option, Some, None, All}
use Rattle.std.specs.Option.{option_map, option_to_list}
use Rattle.std.specs.Ordering.{int_eq}
use Rattle.std.specs.Cmp.Lexicographic.{pointwise}
use Rattle.std.specs.List.{filter_map, cons_option}
use Rattle.std.proofs.lemmas.List.{take_more}
use Rattle.std.proofs.lemmas.List.Elements.{All-append, All-cons, All-take, filter_map-append}
use Rattle.oeis_terms.specs.Table.{Row, Table, IsRow, IsTable}
use Rattle.text_parts.specs.Names.{IsName}
use Rattle.term_index.specs.declared.form.Form.{Form}
use Rattle.term_index.specs.declared.form.Form.TheVariants.{Direct, Difference, Sum, Linear}
use Rattle.term_index.specs.declared.form.Match.{Match}
use Rattle.term_index.specs.Lines.{line_of}
use Rattle.term_index.specs.Matching.{shortened, matching, equal_match, linear_match, all_matches, matches_of}

-- ---- names

none_of : {X : Type 0} (P : X → Type 0) → All P []
none_of P k d lt = absurd (omega arith)

all_made : {X Y : Type 0} (h : X → Option Y) (Q : X → Type 0) (P : Y → Type 0) → ((x : X) (y : Y) → Q x → h x ≡ Some y → P y)
    → (xs : List X) → All Q xs → All P (filter_map h xs)
all_made h Q P keeps [] each = none_of P
all_made {X} {Y} h Q P keeps (x ∷ xs) each = by_head (h x) refl (all_made h Q P keeps xs (λ k d lt. each (suc k) d (omega arith)))
  where
    by_head : (o : Option Y) → h x ≡ o → All P (filter_map h xs) → All P (cons_option o (filter_map h xs))
    by_head None e rest = rest
    by_head (Some y) e rest = All-cons P y (filter_map h xs) (keeps x y (each 0 x (omega arith)) e) rest

abbrev HasName : Row → Type 0
HasName row = IsName row.0

name_equal : (form : Form) (wanted : List ℤ) (row : Row) (m : Match) → HasName row → equal_match form wanted row ≡ Some m → IsName m.name
name_equal form wanted row m named e = by_test (pointwise int_eq row.1 wanted) e
  where
    by_test : (b : Bool) → (if b then Some (matching form row) else None) ≡ Some m → IsName m.name
    by_test true e = let same : matching form row ≡ m = cc in subst (λ (n : Match). IsName n.name) same named
    by_test false e = absurd (let z : None ≡ Some m = e in cc)

name_linear : (values : List ℤ) (row : Row) (m : Match) → HasName row → linear_match values row ≡ Some m → IsName m.name
name_linear values row m named e = by_line (line_of values row.1) e
  where
    by_line : (o : Option (ℤ × ℤ)) → option_map (λ (l : ℤ × ℤ). matching (Linear l.0 l.1) row) o ≡ Some m → IsName m.name
    by_line (Some l) e =
        let z : Some (matching (Linear l.0 l.1) row) ≡ Some m = e in
        let same : matching (Linear l.0 l.1) row ≡ m = cc in
        subst (λ (n : Match). IsName n.name) same named
    by_line None e = absurd (let z : None ≡ Some m = e in cc)

rows_named : (rows : List Row) → All IsRow rows → All HasName (map shortened rows)
rows_named [] each = none_of HasName
rows_named (row ∷ rows) each =
    let is = each 0 row (omega arith) in
    let low = is.positive in
    let high = is.six_digits in
    All-cons HasName (shortened row) (map shortened rows) (omega (arith, low), omega (arith, high)) (rows_named rows (λ k d lt. each (suc k) d (omega arith)))

pub matches_named : (values : List ℤ) (table : Table) → IsTable table → All (λ (m : Match). IsName m.name) (matches_of values table)
matches_named values table is =
    let P : Match → Type 0 = λ m. IsName m.name in
    let rows = map shortened table.rows in
    let named = rows_named table.rows is.rows in
    All-take P 16 (all_matches values rows)
    (All-append P _ _ (all_made (equal_match Direct (take 8 values)) HasName P (λ row m q e. name_equal Direct (take 8 values) row m q e) rows named)
    (All-append P _ _ (all_made _ HasName P (λ row m q e. name_equal Difference _ row m q e) rows named)
    (All-append P _ _ (all_made _ HasName P (λ row m q e. name_equal Sum _ row m q e) rows named)
    (all_made (linear_match (take 8 values)) HasName P (λ row m q e. name_linear (take 8 values) row m q e) rows named))))

pub few_matches : (values : List ℤ) (table : Table) → length (matches_of values table) ≤ 16
few_matches values table = omega (arith, length-take 16 (all_matches values (map shortened table.rows)))

-- ---- one match after the other

to_list : {X : Type 0} (o : Option X) → cons_option o [] ≡ option_to_list o
to_list None = refl
to_list (Some x) = refl

-- the proposals of the first matches
pub record Made {X Y : Type 0} (h : X → Option Y) (P : Y → Type 0) (xs : List X) (i : ℕ) (list : List Y) : Type 0 where
  pub list_is : list ≡ filter_map h (take i xs)
  pub few : length list ≤ i
  pub each : All P list

pub made_none : {X Y : Type 0} (h : X → Option Y) (P : Y → Type 0) (xs : List X) → Made h P xs 0 []
made_none h P xs = record { list_is = refl; few = omega arith; each = none_of P }

all_listed : {Y : Type 0} (P : Y → Type 0) (o : Option Y) → ((y : Y) → o ≡ Some y → P y) → All P (option_to_list o)
all_listed P None keeps = none_of P
all_listed P (Some y) keeps = All-cons P y [] (keeps y refl) (none_of P)

one_at_most : {Y : Type 0} (o : Option Y) → length (option_to_list o) ≤ 1
one_at_most None = omega arith
one_at_most (Some y) = omega arith

pub made_next : {X Y : Type 0} (h : X → Option Y) (P : Y → Type 0) (xs : List X) (i : ℕ) (list new : List Y) (x : X) (o : Option Y) → Made h P xs i list
    → i < length xs → x ≡ get_or xs i x → o ≡ h x → ((y : Y) → o ≡ Some y → P y) → new ≡ list ++ option_to_list o → Made h P xs (i + 1) new
made_next {X} {Y} h P xs i list new x o so_far lt here is keeps longer =
    let more : take (i + 1) xs ≡ take i xs ++ x ∷ [] = take_more xs i x lt ∙ ap (λ (y : X). take i xs ++ y ∷ []) (sym here) in
    let few = so_far.few in
    record {
      list_is = longer ∙ ap (λ (ys : List Y). ys ++ option_to_list o) so_far.list_is
          ∙ ap (λ (ys : List Y). filter_map h (take i xs) ++ ys) (sym (to_list o) ∙ ap (λ (p : Option Y). cons_option p []) is)
          ∙ sym (filter_map-append h (take i xs) (x ∷ [])) ∙ ap (filter_map h) (sym more);
      few = omega (arith, ap length longer, length-append list (option_to_list o), one_at_most o, few);
      each = subst (λ (ys : List Y). All P ys) (sym longer) (All-append P list (option_to_list o) so_far.each (all_listed P o keeps));
    }
