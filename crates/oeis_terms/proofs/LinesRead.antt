-- Reading lines one after the other, as a loop does.
use Rattle.std.proofs.Common.{◌≡◌, ℕ, ◌+◌, ◌<◌, ◌≤◌, Bool, true, false, cond, eqb, not, ◌||◌, List, [], ◌∷◌, ◌++◌, length, get_or, set, refl, sym, ap, subst, ◌∙◌, append_assoc, arith, Bor}
use Rattle.std.specs.Prelude.{Option, Some, None, Result, Ok, Err, filter, count_by, IfSome, ◌==◌}
use Rattle.std.specs.Option.{option_map}
use Rattle.std.specs.List.{list_any, cons_option}
use Rattle.std.proofs.lemmas.Bool.Decides.{nat_tests}
use Rattle.std.proofs.lemmas.List.{append-nil, length-append, length-set, get_or-set_same, get_or-set_other}
use Rattle.std.proofs.lemmas.List.Elements.{filter-append, filter_map-append}
use Rattle.std.proofs.lemmas.List.Folds.{list_any-append}
use Rattle.std.proofs.lemmas.List.Sums.{sum_by_push}
use Rattle.oeis_terms.specs.declared.error.LineError.{LineError}
use Rattle.oeis_terms.specs.declared.error.LineError.TheVariants as errors
use Rattle.oeis_terms.specs.declared.error.TermsKind.{TermsKind}
use Rattle.oeis_terms.specs.declared.error.TermsKind.TheVariants.{Repeated}
use Rattle.oeis_terms.specs.Cut.{lines, lines_left}
use Rattle.text_parts.specs.Results.{◌>>=◌}
use Rattle.oeis_terms.specs.Line.{said}
use Rattle.oeis_terms.specs.Stripped.{row_in, rows_in, fault_behind, TermsFault, or_later, first_line_fault}
use Rattle.oeis_terms.specs.Table.{Row, is_kept, is_skipped}
use Rattle.oeis_terms.specs.Reading.{ReadingState, Reflects, LineFails, ReadsLines, error_at_line, with_row, after_row, after_line}
use Rattle.oeis_terms.proofs.Said.{row_facts}
use Rattle.text_parts.specs.declared.names.TheConstants.{GREATEST_NAME}

-- what is left to read, with the end
abbrev pub left : Option (List ℕ) → ℕ
left None = 0
left (Some text) = length text + 1

-- lines were read without a fault, and the state stands for their rows
pub record HasRead (all : List (List ℕ)) (rest : Option (List ℕ)) (next : ℕ) (state : ReadingState) : Type 0 where
  pub earlier : List (List ℕ)
  pub whole : earlier ++ lines_left rest ≡ all
  pub faults : first_line_fault earlier (lines_left rest) ≡ first_line_fault [] all
  pub number : next ≡ length earlier + 1
  pub rows : Reflects (rows_in earlier) state
  pub few : state.skipped < next

pub start : (text : List ℕ) (state : ReadingState) → Reflects [] state → HasRead (lines text) (Some text) 1 state
start text state rows = let none : state.skipped ≡ 0 = rows.skipped in record { earlier = []; whole = refl; faults = refl; number = refl; rows = rows; few = omega arith }

pub less_left : (text : List ℕ) (after : Option (Bor (List ℕ))) → IfSome after (λ t. length t.now < length text) → left (option_map (λ t. t.now) after) + 1 ≤ left (Some text)
less_left text None h = omega arith
less_left text (Some t) h = omega arith

-- ---- one more row

abbrev has_name : ℕ → Row → Bool
has_name name r = r.0 == name

seen_cases : (b : Bool) (seen : List Bool) (row : Row) (rows : List Row) (name : ℕ) → eqb row.0 name ≡ b → row.0 < length seen → name ≤ GREATEST_NAME
    → get_or seen name false ≡ list_any (has_name name) rows → get_or (set seen row.0 true) name false ≡ (list_any (has_name name) rows || (b || false))
seen_cases true seen row rows name e lt low h =
    let same : row.0 ≡ name = grind (arith, nat_tests, e) in
    let now : get_or (set seen row.0 true) row.0 false ≡ true = get_or-set_same seen row.0 true false lt in
    rw (← same) now ∙ sym (or_true (list_any (has_name name) rows))
  where
    or_true : (x : Bool) → (x || true) ≡ true
    or_true true = refl
    or_true false = refl
seen_cases false seen row rows name e lt low h =
    let differs : name ≡ row.0 → ⊥ = λ same. grind (arith, nat_tests, e, same) in
    get_or-set_other seen row.0 name true false differs ∙ h ∙ sym (or_false (list_any (has_name name) rows))
  where
    or_false : (x : Bool) → (x || false) ≡ x
    or_false true = refl
    or_false false = refl

kept_push : (b : Bool) (row : Row) (xs : List Row) → cond b (xs ++ row ∷ []) xs ≡ xs ++ cond b (row ∷ []) []
kept_push true row xs = refl
kept_push false row xs = sym (append-nil xs)

skipped_push : (b : Bool) (n : ℕ) → cond b n (n + 1) ≡ n + cond (not b) 1 0
skipped_push true n = omega arith
skipped_push false n = refl

one_more : (b : Bool) (n : ℕ) → cond b n (n + 1) ≤ n + 1
one_more true n = omega arith
one_more false n = omega arith

Reflects-push : (rows : List Row) (state : ReadingState) (row : Row) → Reflects rows state → row.0 ≤ GREATEST_NAME → Reflects (rows ++ row ∷ []) (with_row state row)
Reflects-push rows state row h low =
    let size = h.size in
    record {
      size = length-set state.seen row.0 true ∙ size;
      seen = λ name lt. seen_cases (eqb row.0 name) state.seen row rows name refl (omega arith) lt (h.seen name lt) ∙ sym (list_any-append (has_name name) rows (row ∷ []));
      kept = ap (λ (ks : List Row). cond (is_kept row) (ks ++ row ∷ []) ks) h.kept ∙ kept_push (is_kept row) row (filter is_kept rows) ∙ sym (filter-append is_kept rows (row ∷ []));
      skipped =
          ap (λ (n : ℕ). cond (is_kept row) n (n + 1)) h.skipped ∙ skipped_push (is_kept row) (count_by is_skipped rows) ∙ sym (sum_by_push (λ (r : Row). cond (is_skipped r) 1 0) rows row);
    }

-- ---- one more line

pub rows_push : (earlier : List (List ℕ)) (line : List ℕ) (o : Result (Option Row) TermsKind) → said line ≡ o → rows_in (earlier ++ line ∷ []) ≡ rows_in earlier ++ cons_option (row_in o) []
rows_push earlier line o e =
    filter_map-append (λ (l : List ℕ). row_in (said l)) earlier (line ∷ []) ∙ ap (λ (r : Result (Option Row) TermsKind). rows_in earlier ++ cons_option (row_in r) []) e

record Adds (earlier : List (List ℕ)) (line : List ℕ) (o : Result (Option Row) TermsKind) (state state' : ReadingState) : Type 0 where
  fault : fault_behind (rows_in earlier) o ≡ None
  rows : Reflects (rows_in (earlier ++ line ∷ [])) state'
  few : state'.skipped ≤ state.skipped + 1

adds : (earlier : List (List ℕ)) (line : List ℕ) (o : Result (Option Row) TermsKind) (state state' : ReadingState) → said line ≡ o → Reflects (rows_in earlier) state → (o >>= after_row state) ≡ Ok state' → Adds earlier line o state state'
adds earlier line (Err kind) state state' is h e = absurd cc
adds earlier line (Ok None) state state' is h e =
    let same : state ≡ state' = cc in
    let rows : rows_in earlier ≡ rows_in (earlier ++ line ∷ []) = sym (rows_push earlier line (Ok None) is ∙ append-nil (rows_in earlier)) in
    let now : Reflects (rows_in (earlier ++ line ∷ [])) state' = subst (λ (s : ReadingState). Reflects (rows_in (earlier ++ line ∷ [])) s) same (subst (λ (rs : List Row). Reflects rs state) rows h) in
    record { fault = refl; rows = now; few = rw (← same) (omega arith) }
adds earlier line (Ok (Some row)) state state' is h e = in_case (get_or state.seen row.0 false) refl e
  where
    in_case : (b : Bool) → get_or state.seen row.0 false ≡ b → cond b (Err (Repeated row.0)) (Ok (with_row state row)) ≡ Ok state' → Adds earlier line (Ok (Some row)) state state'
    in_case true test e' = absurd cc
    in_case false test e' =
        let same : with_row state row ≡ state' = cc in
        let low = (row_facts line row is).1 in
        let new : list_any (has_name row.0) (rows_in earlier) ≡ false = sym (h.seen row.0 low) ∙ test in
        let pushed = Reflects-push (rows_in earlier) state row h low in
        let rows : rows_in earlier ++ row ∷ [] ≡ rows_in (earlier ++ line ∷ []) = sym (rows_push earlier line (Ok (Some row)) is) in
        record {
          fault = rw new refl;
          rows = subst (λ (s : ReadingState). Reflects (rows_in (earlier ++ line ∷ [])) s) same (subst (λ (rs : List Row). Reflects rs (with_row state row)) rows pushed);
          few = rw (← same) (one_more (is_kept row) state.skipped);
        }

pub one_line : (all : List (List ℕ)) (text line : List ℕ) (after : Option (List ℕ)) (next : ℕ) (state state' : ReadingState) → HasRead all (Some text) next state → lines text ≡ line ∷ lines_left after
    → after_line state line ≡ Ok state' → HasRead all after (next + 1) state'
unfolding first_line_fault
one_line all text line after next state state' h cut e =
    let a = adds h.earlier line (said line) state state' refl h.rows e in
    let whole : h.earlier ++ (line ∷ lines_left after) ≡ all = ap (λ (ls : List (List ℕ)). h.earlier ++ ls) (sym cut) ∙ h.whole in
    let step : first_line_fault h.earlier (line ∷ lines_left after) ≡ first_line_fault (h.earlier ++ line ∷ []) (lines_left after) =
    ap (λ (f : Option TermsKind). or_later f (length h.earlier + 1) (first_line_fault (h.earlier ++ line ∷ []) (lines_left after))) a.fault
    in
    let faults : first_line_fault h.earlier (line ∷ lines_left after) ≡ first_line_fault [] all = ap (first_line_fault h.earlier) (sym cut) ∙ h.faults in
    let number = h.number in
    let few = h.few in
    let more = a.few in
    record {
      earlier = h.earlier ++ line ∷ [];
      whole = append_assoc h.earlier (line ∷ []) (lines_left after) ∙ whole;
      faults = sym step ∙ faults;
      number = omega (arith, length-append h.earlier (line ∷ []));
      rows = a.rows;
      few = omega arith;
    }

fault_is : (earlier : List (List ℕ)) (line : List ℕ) (o : Result (Option Row) TermsKind) (state : ReadingState) (kind : TermsKind) → said line ≡ o → Reflects (rows_in earlier) state
    → (o >>= after_row state) ≡ Err kind → fault_behind (rows_in earlier) o ≡ Some kind
fault_is earlier line (Err k) state kind is h e = cc
fault_is earlier line (Ok None) state kind is h e = absurd cc
fault_is earlier line (Ok (Some row)) state kind is h e = in_case (get_or state.seen row.0 false) refl e
  where
    in_case : (b : Bool) → get_or state.seen row.0 false ≡ b → cond b (Err (Repeated row.0)) (Ok (with_row state row)) ≡ Err kind → fault_behind (rows_in earlier) (Ok (Some row)) ≡ Some kind
    in_case false test e' = absurd cc
    in_case true test e' =
        let same : Repeated row.0 ≡ kind = cc in
        let seen : list_any (has_name row.0) (rows_in earlier) ≡ true = sym (h.seen row.0 (row_facts line row is).1) ∙ test in
        rw seen (ap (λ (k : TermsKind). Some k) same)

pub bad_line : (all : List (List ℕ)) (text line : List ℕ) (after : Option (List ℕ)) (next : ℕ) (state : ReadingState) (kind : TermsKind) → HasRead all (Some text) next state → lines text ≡ line ∷ lines_left after
    → after_line state line ≡ Err kind → first_line_fault [] all ≡ Some (record { line = next; kind = kind })
unfolding first_line_fault
bad_line all text line after next state kind h cut e =
    let fault = fault_is h.earlier line (said line) state kind refl h.rows e in
    let step : first_line_fault h.earlier (line ∷ lines_left after) ≡ Some (record { line = length h.earlier + 1; kind = kind }) =
    ap (λ (f : Option TermsKind). or_later f (length h.earlier + 1) (first_line_fault (h.earlier ++ line ∷ []) (lines_left after))) fault
    in
    sym h.faults ∙ ap (first_line_fault h.earlier) cut ∙ step ∙ ap (λ (n : ℕ). let f : Option TermsFault = Some (record { line = n; kind = kind }) in f) (sym h.number)

pub done : (all : List (List ℕ)) (next : ℕ) (state : ReadingState) → HasRead all None next state → (first_line_fault [] all ≡ None) × Reflects (rows_in all) state
unfolding first_line_fault
done all next state h =
    let same : h.earlier ≡ all = sym (append-nil h.earlier) ∙ h.whole in
    (sym h.faults, subst (λ (ls : List (List ℕ)). Reflects (rows_in ls) state) same h.rows)

pub bad_answer : (bytes text line : List ℕ) (after : Option (List ℕ)) (next : ℕ) (state : ReadingState) (e : LineError) → HasRead (lines bytes) (Some text) next state → lines text ≡ line ∷ lines_left after
    → LineFails e (after_line state line) → ReadsLines bytes (Err (error_at_line next e))
bad_answer bytes text line after next state errors.Memory h cut e = tt
bad_answer bytes text line after next state (errors.Bad kind) h cut e = bad_line (lines bytes) text line after next state kind h cut e
