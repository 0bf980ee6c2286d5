-- What a line that is a row says of its bytes.
use Rattle.std.proofs.Common.{◌≡◌, ℕ, suc, ◌+◌, ◌-◌, ◌*◌, ◌<◌, ◌≤◌, ◌^◌, Bool, true, false, cond, eqb, leb, ◌&&◌, List, [], ◌∷◌, length, take, drop, refl, sym, ap, ◌∙◌, arith}
use Rattle.std.specs.Prelude.{ℤ, Option, Some, None, Result, Ok, Err, sum_by}
use Rattle.std.proofs.lemmas.Bool.Decides.{nat_tests}
use Rattle.std.specs.List.{prefix_len}
use Rattle.std.proofs.lemmas.List.{length-take, length-drop}
use Rattle.checked_numbers.specs.Numbers.{is_number}
use Rattle.std.proofs.lemmas.List.Sums.{sum_by-cons}
use Rattle.oeis_terms.specs.declared.error.TermsKind.{TermsKind}
use Rattle.oeis_terms.specs.declared.error.TermsKind.TheVariants.{BadName, NoComma}
use Rattle.text_parts.specs.Blanks.{without_return, is_blank, trim_back}
use Rattle.oeis_terms.specs.Cut.{Pieces, pieces, with_byte, ends_with, trimmed}
use Rattle.text_parts.specs.Results.{◌>>=◌}
use Rattle.oeis_terms.specs.Items.{items_from}
use Rattle.text_parts.specs.Digits.{number_spelled}
use Rattle.oeis_terms.specs.Numbers.{integer_of}
use Rattle.text_parts.specs.Names.{name_read}
use Rattle.oeis_terms.specs.Line.{named, name_at, term_at, integers_from, usable, usable_terms, is_ended, terms_read, row_at, is_silent, said}
use Rattle.oeis_terms.specs.Table.{Row}
use Rattle.text_parts.proofs.Shorter.{back-length, return-length}
use Rattle.text_parts.proofs.NameBack.{read_is_name}
use Rattle.text_parts.specs.declared.names.TheConstants.{GREATEST_NAME}

bind_ok : {A B : Type 0} (r : Result A TermsKind) (f : A → Result B TermsKind) (y : B) → (r >>= f) ≡ Ok y → (x : A) × (r ≡ Ok x) × (f x ≡ Ok y)
bind_ok (Ok x) f y e = (x, refl, e)
bind_ok (Err k) f y e = absurd cc

if_ok : {A : Type 0} (b : Bool) (r : Result A TermsKind) (k : TermsKind) (y : A) → cond b r (Err k) ≡ Ok y → (b ≡ true) × (r ≡ Ok y)
if_ok true r k y e = (refl, e)
if_ok false r k y e = absurd cc

-- ---- the row

row_in_result : (r : Result Row TermsKind) (row : Row) → (r >>= λ x. let o : Result (Option Row) TermsKind = Ok (Some x) in o) ≡ Ok (Some row) → r ≡ Ok row
row_in_result (Ok x) row e = let same : x ≡ row = cc in ap (λ (s : Row). let r : Result Row TermsKind = Ok s in r) same
row_in_result (Err k) row e = absurd cc

if_silent : (b : Bool) (r : Result Row TermsKind) (row : Row) → cond b (Ok None) (r >>= λ x. let o : Result (Option Row) TermsKind = Ok (Some x) in o) ≡ Ok (Some row) → r ≡ Ok row
if_silent true r row e = absurd cc
if_silent false r row e = row_in_result r row e

-- a row is made of a name and terms of a trimmed line
pub record IsRowOf (line : List ℕ) (row : Row) : Type 0 where
  pub behind : List ℕ
  pub name : name_at line ≡ Ok (row.0, behind)
  pub terms : terms_read behind ≡ Ok row.1

parts : (line : List ℕ) (row : Row) → row_at line ≡ Ok row → IsRowOf line row
unfolding row_at
parts line row e =
    let named = bind_ok (name_at line) _ row e in
    let termed = bind_ok (terms_read named.0.1) _ row named.2 in
    let name : named.0.0 ≡ row.0 = cc (termed.2) in
    let terms : termed.0 ≡ row.1 = cc (termed.2) in
    record {
      behind = named.0.1;
      name = named.1 ∙ ap (λ (n : ℕ). let r : Result (ℕ × List ℕ) TermsKind = Ok (n, named.0.1) in r) name;
      terms = termed.1 ∙ ap (λ (ts : List ℤ). let r : Result (List ℤ) TermsKind = Ok ts in r) terms;
    }

pub said_parts : (line : List ℕ) (row : Row) → said line ≡ Ok (Some row) → IsRowOf (trimmed line) row
said_parts line row e = parts (trimmed line) row (if_silent (is_silent (trimmed line)) (row_at (trimmed line)) row e)

-- ---- the name

named_ok : (o : Option ℕ) (rest : List ℕ) (x : ℕ × List ℕ) → named o rest ≡ Ok x → (o ≡ Some x.0) × (rest ≡ x.1)
named_ok None rest x e = absurd cc
named_ok (Some n) rest x e = (cc, cc)

-- a name is from 1 to 999,999, and stands in the first seven bytes
pub name_facts : (line : List ℕ) (x : ℕ × List ℕ) → name_at line ≡ Ok x → (0 < x.0) × (x.0 ≤ GREATEST_NAME) × (length x.1 ≤ length line)
name_facts line x e =
    let named = named_ok (name_read (take 7 line)) (drop 7 line) x e in
    let is = read_is_name (take 7 line) x.0 named.0 in
    let rest : length x.1 ≡ length line - 7 = ap length (sym named.1) ∙ length-drop 7 line in
    (omega (arith, is.0), omega (arith, is.1), omega arith)

-- ---- the number of terms

abbrev size_of : Pieces → ℕ
size_of p = sum_by (λ (q : List ℕ). length q + 1) p.ended + length p.rest

size_with_byte : (b : ℕ) (ended : List (List ℕ)) (rest : List ℕ) → size_of (with_byte b ended rest) ≡ sum_by (λ (q : List ℕ). length q + 1) ended + length rest + 1
size_with_byte b [] rest = omega arith
size_with_byte b (p ∷ ps) rest =
    omega (arith, sum_by-cons (λ (q : List ℕ). length q + 1) (b ∷ p) ps, sum_by-cons (λ (q : List ℕ). length q + 1) p ps)

size_step : (same : Bool) (b : ℕ) (p : Pieces) (n : ℕ) → size_of p ≡ n → size_of (cond same (record { ended = [] ∷ p.ended; rest = p.rest }) (with_byte b p.ended p.rest)) ≡ n + 1
size_step true b p n e = omega (arith, sum_by-cons (λ (q : List ℕ). length q + 1) [] p.ended)
size_step false b p n e = omega (arith, size_with_byte b p.ended p.rest)

pub pieces_size : (c : ℕ) (bs : List ℕ) → size_of (pieces c bs) ≡ length bs
unfolding pieces
pieces_size c [] = refl
pieces_size c (b ∷ bs) = let e = size_step (eqb b c) b (pieces c bs) (length bs) (pieces_size c bs) in omega (arith, e)

not_empty : (column : ℕ) (piece : List ℕ) (z : ℤ) → term_at column (integer_of piece) ≡ Ok z → 1 ≤ length piece
not_empty column [] z e = absurd cc
not_empty column (c ∷ cs) z e = omega arith

count_items : (column : ℕ) (ps : List (List ℕ)) (zs : List ℤ)
    → items_from (λ at piece. term_at at (integer_of piece)) (λ at piece. at + (length piece + 1)) column ps ≡ Ok zs → 2 * length zs ≤ sum_by (λ (q : List ℕ). length q + 1) ps
unfolding items_from
count_items column [] zs e = let none : [] ≡ zs = cc in rw (← none) (omega arith)
count_items column (p ∷ ps) zs e =
    let one = bind_ok (term_at column (integer_of p)) _ zs e in
    let others = bind_ok (items_from (λ at piece. term_at at (integer_of piece)) (λ at piece. at + (length piece + 1)) (column + (length p + 1)) ps) _ zs one.2 in
    let all : one.0 ∷ others.0 ≡ zs = cc (others.2) in
    let len : suc (length others.0) ≡ length zs = ap length all in
    omega (arith, not_empty column p one.0 one.1, count_items (column + (length p + 1)) ps others.0 others.1, len, sum_by-cons (λ (q : List ℕ). length q + 1) p ps)

pub terms_count : (line : List ℕ) (terms : List ℤ) → terms_read line ≡ Ok terms → 2 * length terms ≤ length line
terms_count [] terms e = absurd cc
terms_count (b ∷ []) terms e = absurd cc
terms_count (b ∷ c ∷ rest) terms e =
    let comma = if_ok (eqb b 32 && eqb c 44) (cond (is_ended rest) (usable_terms rest) (Err NoComma)) NoComma terms e in
    let ended = if_ok (is_ended rest) (usable_terms rest) NoComma terms comma.1 in
    let all = bind_ok (integers_from 10 rest) _ terms ended.1 in
    let same : usable all.0 ≡ terms = cc (all.2) in
    let fewer : length (usable all.0) ≤ length all.0 = omega (arith, length-take (prefix_len is_number all.0) all.0) in
    omega (arith, ap length same, fewer, count_items 10 (pieces 44 rest).ended all.0 all.1, pieces_size 44 rest)

-- ---- trimming

trimmed-length : (line : List ℕ) → length (trimmed line) ≤ length line
trimmed-length line = omega (arith, back-length (without_return line), return-length line)

pub row_facts : (line : List ℕ) (row : Row) → said line ≡ Ok (Some row) → (0 < row.0) × (row.0 ≤ GREATEST_NAME) × (2 * length row.1 ≤ length line)
row_facts line row e =
    let h = said_parts line row e in
    let named = name_facts (trimmed line) (row.0, h.behind) h.name in
    (named.0, named.1, omega (arith, named.2, terms_count h.behind row.1 h.terms, trimmed-length line))
