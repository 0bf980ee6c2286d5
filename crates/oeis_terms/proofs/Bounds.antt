-- A file that is read whole has lines of at most 65,536 bytes, so no row has too many terms.
use Rattle.std.proofs.Common.{◌≡◌, ℕ, ◌+◌, ◌≤◌, Bool, true, false, cond, eqb, List, [], ◌∷◌, ◌++◌, length, refl, sym, subst, arith}
use Rattle.std.specs.Prelude.{Option, Some, None, Result, Ok, Err, All, IfOk, filter}
use Rattle.std.specs.List.{AllByRecursion}
use Rattle.std.proofs.lemmas.Bool.Decides.{nat_tests}
use Rattle.std.proofs.lemmas.List.Sorted.{All-permutation}
use Rattle.loda_io.specs.declared.ReadError.{ReadError}
use Rattle.loda_io.specs.declared.ReadError.TheVariants.{FileTooLarge, LineTooLong}
use Rattle.loda_io.specs.Shelf.{Spot, beginning, checked}
use Rattle.loda_io.specs.Shelf as io
use Rattle.oeis_terms.specs.declared.error.TermsError.{TermsError}
use Rattle.oeis_terms.specs.Cut.{Pieces, pieces, with_byte, lines}
use Rattle.oeis_terms.specs.Stripped.{TermsFault, first_line_fault, rows_in, unless_fault, stripped}
use Rattle.oeis_terms.specs.Table.{Row, Table, IsBounded, is_kept, by_name, table_of}
use Rattle.oeis_terms.specs.Answers.{Parses}
use Rattle.oeis_terms.proofs.Said.{row_facts}
use Rattle.oeis_terms.proofs.Facts.{rows_all, kept_all, each}
use Rattle.oeis_terms.proofs.Sorting.{by_name-permutation}
use Rattle.loda_io.specs.declared.scan.TheConstants.{FILE_LIMIT, LINE_LIMIT}

-- ---- lines by the first byte

abbrev before_lines : ℕ → List (List ℕ) → List (List ℕ)
before_lines b [] = (b ∷ []) ∷ []
before_lines b (l ∷ ls) = (b ∷ l) ∷ ls

abbrev lines_in : Pieces → List (List ℕ)
lines_in p = p.ended ++ p.rest ∷ []

lines_with_byte : (b : ℕ) (ended : List (List ℕ)) (rest : List ℕ) → lines_in (with_byte b ended rest) ≡ before_lines b (ended ++ rest ∷ [])
lines_with_byte b [] rest = refl
lines_with_byte b (p ∷ ps) rest = refl

lines-cons : (b : ℕ) (bs : List ℕ) → lines (b ∷ bs) ≡ cond (eqb b 10) ([] ∷ lines bs) (before_lines b (lines bs))
unfolding lines pieces
lines-cons b bs = in_case (eqb b 10)
  where
    in_case : (same : Bool) → lines_in (cond same (record { ended = [] ∷ (pieces 10 bs).ended; rest = (pieces 10 bs).rest }) (with_byte b (pieces 10 bs).ended (pieces 10 bs).rest))
        ≡ cond same ([] ∷ lines_in (pieces 10 bs)) (before_lines b (lines_in (pieces 10 bs)))
    in_case true = refl
    in_case false = lines_with_byte b (pieces 10 bs).ended (pieces 10 bs).rest

-- ---- no line is too long

abbrev IsShort : List ℕ → Type 0
IsShort l = length l ≤ LINE_LIMIT

-- so many bytes of the first line were read before
abbrev AreShort : ℕ → List (List ℕ) → Type 0
AreShort n [] = Unit {0}
AreShort n (l ∷ ls) = (n + length l ≤ LINE_LIMIT) × AllByRecursion IsShort ls

all_short : (ls : List (List ℕ)) → AreShort 0 ls → AllByRecursion IsShort ls
all_short [] h = tt
all_short (l ∷ ls) h = let first = h.0 in (omega arith, h.1)

one_longer : (n b : ℕ) (ls : List (List ℕ)) → n + 1 ≤ LINE_LIMIT → AreShort (n + 1) ls → AreShort n (before_lines b ls)
one_longer n b [] le h = (omega arith, tt)
one_longer n b (l ∷ ls) le h = let first = h.0 in (omega arith, h.1)

if_none : (b : Bool) (e : ReadError) (o : Option ReadError) → cond b (Some e) o ≡ None → (b ≡ false) × (o ≡ None)
if_none true e o h = absurd cc
if_none false e o h = (refl, h)

shorter : (n : ℕ) → n ≤ LINE_LIMIT → eqb n LINE_LIMIT ≡ false → n + 1 ≤ LINE_LIMIT
shorter n le other = grind (arith, nat_tests)

are_short : (bs : List ℕ) (s : Spot) → s.column ≤ LINE_LIMIT → io.first_past_limit s bs ≡ None → AreShort s.column (lines bs)
unfolding io.first_past_limit lines pieces
are_short [] s le e = (omega arith, tt)
are_short (b ∷ bs) s le e =
    let at : Spot = record { at = s.at + 1; line = s.line + 1; column = 0 } in
    let on : Spot = record { at = s.at + 1; line = s.line; column = s.column + 1 } in
    let inside = if_none (eqb s.at FILE_LIMIT) (FileTooLarge (FILE_LIMIT + 1)) (cond (eqb b 10) (io.first_past_limit at bs) (cond (eqb s.column LINE_LIMIT) (Some (LineTooLong s.line)) (io.first_past_limit on bs))) e in
    subst (λ (ls : List (List ℕ)). AreShort s.column ls) (sym (lines-cons b bs)) (in_case (eqb b 10) inside.1 (are_short bs at (omega arith)) (λ few. are_short bs on few))
  where
    in_case : (same : Bool) → cond same (io.first_past_limit (record { at = s.at + 1; line = s.line + 1; column = 0 }) bs)
        (cond (eqb s.column LINE_LIMIT) (Some (LineTooLong s.line)) (io.first_past_limit (record { at = s.at + 1; line = s.line; column = s.column + 1 }) bs)) ≡ None
        → (io.first_past_limit (record { at = s.at + 1; line = s.line + 1; column = 0 }) bs ≡ None → AreShort 0 (lines bs))
        → (s.column + 1 ≤ LINE_LIMIT → io.first_past_limit (record { at = s.at + 1; line = s.line; column = s.column + 1 }) bs ≡ None → AreShort (s.column + 1) (lines bs))
        → AreShort s.column (cond same ([] ∷ lines bs) (before_lines b (lines bs)))
    in_case true e' ended going = (omega arith, all_short (lines bs) (ended e'))
    in_case false e' ended going =
        let few = if_none (eqb s.column LINE_LIMIT) (LineTooLong s.line) (io.first_past_limit (record { at = s.at + 1; line = s.line; column = s.column + 1 }) bs) e' in
        let le' = shorter s.column le few.0 in
        one_longer s.column b (lines bs) le' (going le' few.1)

read_whole : (f : Option ReadError) (bytes : List ℕ) → io.file_unless f bytes ≡ Ok bytes → f ≡ None
read_whole None bytes e = refl
read_whole (Some fault) bytes e = absurd cc

-- ---- no row has too many terms

abbrev IsFew : Row → Type 0
IsFew r = length r.1 ≤ 32_768

kept_few : (ls : List (List ℕ)) → AllByRecursion IsShort ls → All IsFew (filter is_kept (rows_in ls))
kept_few ls h =
    each IsFew (filter is_kept (rows_in ls))
    (kept_all IsFew IsFew (λ row few test. few) (rows_in ls) (rows_all IsFew IsShort (λ l row short is. let facts = (row_facts l row is).2 in omega (arith, facts, short)) ls h))

table_in : (f : Option TermsFault) (t table : Table) → unless_fault f t ≡ Ok table → t ≡ table
table_in None t table e = cc
table_in (Some fault) t table e = absurd cc

bounded_table : (bytes : List ℕ) (table : Table) → checked bytes ≡ Ok bytes → stripped bytes ≡ Ok table → IsBounded table
unfolding stripped
bounded_table bytes table whole e =
    let short = all_short (lines bytes) (are_short bytes beginning (omega arith) (read_whole (io.first_past_limit beginning bytes) bytes whole)) in
    let kept = filter is_kept (rows_in (lines bytes)) in
    let few = All-permutation IsFew kept (by_name kept) (by_name-permutation kept) (kept_few (lines bytes) short) in
    subst IsBounded (table_in (first_line_fault [] (lines bytes)) (table_of (rows_in (lines bytes))) table e) few

pub bounded_answer : (bytes : List ℕ) (answer : Result Table TermsError) → checked bytes ≡ Ok bytes → Parses (stripped bytes) answer → IfOk answer IsBounded
bounded_answer bytes (Ok table) whole e = bounded_table bytes table whole e
bounded_answer bytes (Err e) whole h = tt
