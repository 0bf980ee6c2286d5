-- What holds of the rows of a file without a fault.
use Rattle.std.proofs.Common.{◌≡◌, ℕ, zero, suc, ◌+◌, ◌<◌, ◌≤◌, Bool, true, false, cond, eqb, leb, ◌||◌, List, [], ◌∷◌, ◌++◌, length, refl, sym, subst, ◌∙◌, append_assoc, arith}
use Rattle.std.specs.Prelude.{Option, Some, None, Result, Ok, Err, filter, count_by, sum_by, All, ◌==◌}
use Rattle.std.specs.List.{AllByRecursion, list_any, cons_option}
use Rattle.std.proofs.lemmas.Bool.Decides.{nat_tests}
use Rattle.std.proofs.lemmas.List.{append-nil}
use Rattle.std.proofs.lemmas.List.Sums.{sum_by-cons, sum_by_push}
use Rattle.oeis_terms.specs.declared.error.TermsKind.{TermsKind}
use Rattle.oeis_terms.specs.declared.error.TermsKind.TheVariants.{Repeated}
use Rattle.oeis_terms.specs.Line.{said}
use Rattle.oeis_terms.specs.Stripped.{row_in, rows_in, fault_behind, TermsFault, or_later, first_line_fault}
use Rattle.oeis_terms.specs.Table.{Row, IsRow, NamesDiffer, is_kept}
use Rattle.oeis_terms.proofs.Said.{row_facts}
use Rattle.oeis_terms.proofs.LinesRead.{rows_push}
use Rattle.text_parts.specs.declared.names.TheConstants.{GREATEST_NAME}

abbrev one_named : ℕ → Row → ℕ
one_named name r = cond (r.0 == name) 1 0

-- ---- names differ

count_none : (name : ℕ) (rows : List Row) → list_any (λ r. r.0 == name) rows ≡ false → count_by (λ r. r.0 == name) rows ≡ 0
count_none name [] e = refl
count_none name (r ∷ rs) e = in_case (eqb r.0 name) refl e (count_none name rs)
  where
    in_case : (b : Bool) → eqb r.0 name ≡ b → (b || list_any (λ (s : Row). s.0 == name) rs) ≡ false → (list_any (λ (s : Row). s.0 == name) rs ≡ false → count_by (λ (s : Row). s.0 == name) rs ≡ 0)
        → count_by (λ (s : Row). s.0 == name) (r ∷ rs) ≡ 0
    in_case true test e' rest = absurd cc
    in_case false test e' rest =
        let all : sum_by (one_named name) (r ∷ rs) ≡ one_named name r + sum_by (one_named name) rs = sum_by-cons (one_named name) r rs in
        let none : one_named name r ≡ 0 = rw test refl in
        omega (arith, all, none, rest e')

NamesDiffer-push : (rows : List Row) (row : Row) → NamesDiffer rows → list_any (λ r. r.0 == row.0) rows ≡ false → NamesDiffer (rows ++ row ∷ [])
NamesDiffer-push rows row h new name = in_case (eqb row.0 name) refl
  where
    in_case : (b : Bool) → eqb row.0 name ≡ b → count_by (λ (s : Row). s.0 == name) (rows ++ row ∷ []) ≤ 1
    in_case true test =
        let same : row.0 ≡ name = grind (arith, nat_tests, test) in
        let none : count_by (λ (s : Row). s.0 == name) rows ≡ 0 = subst (λ (n : ℕ). count_by (λ (s : Row). s.0 == n) rows ≡ 0) same (count_none row.0 rows new) in
        let one : one_named name row ≡ 1 = rw test refl in
        omega (arith, none, one, sum_by_push (one_named name) rows row)
    in_case false test =
        let one : one_named name row ≡ 0 = rw test refl in
        omega (arith, h name, one, sum_by_push (one_named name) rows row)

NamesDiffer-line : (earlier : List (List ℕ)) (line : List ℕ) (o : Result (Option Row) TermsKind) → said line ≡ o → NamesDiffer (rows_in earlier) → fault_behind (rows_in earlier) o ≡ None → NamesDiffer (rows_in (earlier ++ line ∷ []))
NamesDiffer-line earlier line (Err kind) is h e = absurd cc
NamesDiffer-line earlier line (Ok None) is h e = subst NamesDiffer (sym (rows_push earlier line (Ok None) is ∙ append-nil (rows_in earlier))) h
NamesDiffer-line earlier line (Ok (Some row)) is h e = in_case (list_any (λ (r : Row). r.0 == row.0) (rows_in earlier)) refl e
  where
    in_case : (b : Bool) → list_any (λ (r : Row). r.0 == row.0) (rows_in earlier) ≡ b → cond b (Some (Repeated row.0)) None ≡ None → NamesDiffer (rows_in (earlier ++ line ∷ []))
    in_case true new e' = absurd cc
    in_case false new e' = subst NamesDiffer (sym (rows_push earlier line (Ok (Some row)) is)) (NamesDiffer-push (rows_in earlier) row h new)

no_fault : (f : Option TermsKind) (n : ℕ) (later : Option TermsFault) → or_later f n later ≡ None → (f ≡ None) × (later ≡ None)
no_fault None n later e = (refl, e)
no_fault (Some kind) n later e = absurd cc

names_differ_from : (earlier later : List (List ℕ)) → first_line_fault earlier later ≡ None → NamesDiffer (rows_in earlier) → NamesDiffer (rows_in (earlier ++ later))
unfolding first_line_fault
names_differ_from earlier [] e h = subst (λ (ls : List (List ℕ)). NamesDiffer (rows_in ls)) (sym (append-nil earlier)) h
names_differ_from earlier (l ∷ ls) e h =
    let none = no_fault (fault_behind (rows_in earlier) (said l)) (length earlier + 1) (first_line_fault (earlier ++ l ∷ []) ls) e in
    let more = names_differ_from (earlier ++ l ∷ []) ls none.1 (NamesDiffer-line earlier l (said l) refl h none.0) in
    subst (λ (all : List (List ℕ)). NamesDiffer (rows_in all)) (append_assoc earlier (l ∷ []) ls) more

pub names_differ : (ls : List (List ℕ)) → first_line_fault [] ls ≡ None → NamesDiffer (rows_in ls)
names_differ ls e = names_differ_from [] ls e (λ name. omega arith)

count_kept : (name : ℕ) (rows : List Row) → count_by (λ r. r.0 == name) (filter is_kept rows) ≤ count_by (λ r. r.0 == name) rows
count_kept name [] = omega arith
count_kept name (r ∷ rs) = in_case (is_kept r) (count_kept name rs)
  where
    in_case : (b : Bool) → count_by (λ (s : Row). s.0 == name) (filter is_kept rs) ≤ count_by (λ (s : Row). s.0 == name) rs
        → count_by (λ (s : Row). s.0 == name) (cond b (r ∷ filter is_kept rs) (filter is_kept rs)) ≤ count_by (λ (s : Row). s.0 == name) (r ∷ rs)
    in_case true h = omega (arith, h, sum_by-cons (one_named name) r rs, sum_by-cons (one_named name) r (filter is_kept rs))
    in_case false h = omega (arith, h, sum_by-cons (one_named name) r rs)

pub NamesDiffer-kept : (rows : List Row) → NamesDiffer rows → NamesDiffer (filter is_kept rows)
NamesDiffer-kept rows h name = omega (arith, h name, count_kept name rows)

-- ---- what holds of each row

-- what lines of a kind say, where each row that such a line says is of a kind
pub rows_all : (P : Row → Type 0) (Q : List ℕ → Type 0) → ((l : List ℕ) (row : Row) → Q l → said l ≡ Ok (Some row) → P row) → (ls : List (List ℕ)) → AllByRecursion Q ls → AllByRecursion P (rows_in ls)
rows_all P Q step [] h = tt
rows_all P Q step (l ∷ ls) h = in_case (said l) refl (rows_all P Q step ls h.1)
  where
    in_case : (o : Result (Option Row) TermsKind) → said l ≡ o → AllByRecursion P (rows_in ls) → AllByRecursion P (cons_option (row_in o) (rows_in ls))
    in_case (Err kind) is rest = rest
    in_case (Ok None) is rest = rest
    in_case (Ok (Some row)) is rest = (step l row h.0 is, rest)

pub kept_all : (P Q : Row → Type 0) → ((row : Row) → P row → is_kept row ≡ true → Q row) → (rows : List Row) → AllByRecursion P rows → AllByRecursion Q (filter is_kept rows)
kept_all P Q step [] h = tt
kept_all P Q step (r ∷ rs) h = in_case (is_kept r) refl (kept_all P Q step rs h.1)
  where
    in_case : (b : Bool) → is_kept r ≡ b → AllByRecursion Q (filter is_kept rs) → AllByRecursion Q (cond b (r ∷ filter is_kept rs) (filter is_kept rs))
    in_case true test rest = (step r h.0 test, rest)
    in_case false test rest = rest

pub each : (P : Row → Type 0) (rows : List Row) → AllByRecursion P rows → All P rows
each P [] h k d lt = absurd (omega arith)
each P (r ∷ rs) h zero d lt = h.0
each P (r ∷ rs) h (suc k) d lt = each P rs h.1 k d (omega arith)

all_lines : (ls : List (List ℕ)) → AllByRecursion (λ (l : List ℕ). Unit {0}) ls
all_lines [] = tt
all_lines (l ∷ ls) = (tt, all_lines ls)

enough : (n : ℕ) → leb 8 n ≡ true → 8 ≤ n
enough n test = grind (arith, nat_tests)

pub kept_rows : (ls : List (List ℕ)) → All IsRow (filter is_kept (rows_in ls))
kept_rows ls =
    let P : Row → Type 0 = λ r. (0 < r.0) × (r.0 ≤ GREATEST_NAME) in
    let Q : List ℕ → Type 0 = λ l. Unit {0} in
    each IsRow (filter is_kept (rows_in ls))
    (kept_all P IsRow (λ row h test. record { terms = enough (length row.1) test; positive = h.0; six_digits = h.1 }) (rows_in ls)
    (rows_all P Q (λ l row h is. let facts = row_facts l row is in (facts.0, facts.1)) ls (all_lines ls)))
