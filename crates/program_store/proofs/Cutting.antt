-- Passing the lines of a file, as the loops over them do.
use Rattle.std.proofs.Common.{◌≡◌, ℕ, ◌+◌, ◌-◌, ◌<◌, Bool, true, false, not, eqb, cond, List, [], ◌∷◌, ◌++◌, length, take, refl, sym, ap, ◌∙◌, append_assoc, length-append, arith}
use Rattle.std.specs.Prelude.{find, Some, None}
use Rattle.std.specs.Option.{option_map}
use Rattle.std.proofs.Math.Seq.{take-append_seam}
use Rattle.std.proofs.lemmas.List.{append-nil}
use Rattle.program_store.specs.Sections.{Line, Section, Cut, line_with_byte, whole_lines, numbered, bytes_of_lines, section_of, add_line, begins_with, is_inner, cut_lines, cut_from}
use Rattle.program_store.specs.Files.{has_text}

abbrev line_at : ℕ → List ℕ → Line
line_at n line = record { number = n; bytes = line }

-- the first line, before what is cut behind it
pub cut-line : (sign n : ℕ) (bytes line rest : List ℕ) → whole_lines bytes ≡ line ∷ whole_lines rest → cut_from sign n bytes ≡ add_line (begins_with sign line) (line_at n line) (cut_from sign (n + 1) rest)
unfolding cut_from cut_lines numbered
cut-line sign n bytes line rest e = ap (λ (lines : List (List ℕ)). cut_lines sign (numbered n lines)) e

pub cut-nil : (sign n : ℕ) → cut_from sign n [] ≡ record { before = []; sections = [] }
unfolding cut_from cut_lines numbered whole_lines
cut-nil sign n = refl

pub cut-empty : (sign n : ℕ) (bytes : List ℕ) → length bytes ≡ 0 → (cut_from sign n bytes).sections ≡ []
cut-empty sign n [] e = ap (λ (c : Cut). c.sections) (cut-nil sign n)
cut-empty sign n (b ∷ bs) e = absurd (omega arith)

-- ---- the first byte of the first line

begins-front : (sign : ℕ) (line rest : List ℕ) → 0 < length line → begins_with sign (line ++ rest) ≡ begins_with sign line
begins-front sign [] rest some = absurd (omega arith)
begins-front sign (b ∷ bs) rest some = refl

inner_is : (sign : ℕ) (bytes : List ℕ) → is_inner sign bytes ≡ true → begins_with sign bytes ≡ false
inner_is sign [] h = absurd cc
inner_is sign (b ∷ bs) h = by_test (eqb b sign) h
  where
    by_test : (t : Bool) → not t ≡ true → t ≡ false
    by_test true h = absurd cc
    by_test false h = refl

pub inner_some : (sign : ℕ) (bytes : List ℕ) → is_inner sign bytes ≡ true → 0 < length bytes
inner_some sign [] h = absurd cc
inner_some sign (b ∷ bs) h = omega arith

inner_line : (sign : ℕ) (bytes line rest : List ℕ) → is_inner sign bytes ≡ true → bytes ≡ line ++ rest → 0 < length line → begins_with sign line ≡ false
inner_line sign bytes line rest h parts some = sym (begins-front sign line rest some) ∙ ap (begins_with sign) (sym parts) ∙ inner_is sign bytes h

first_of_lines : (sign n b : ℕ) (lines : List (List ℕ)) → eqb b sign ≡ true → (cut_lines sign (numbered n (line_with_byte b lines))).before ≡ []
unfolding cut_lines numbered
first_of_lines sign n b [] same = rw same refl
first_of_lines sign n b (line ∷ lines) same = rw same refl

by_feed : (sign n b : ℕ) (bs : List ℕ) (feed : Bool) → eqb b sign ≡ true → (cut_lines sign (numbered n (cond feed ((b ∷ []) ∷ whole_lines bs) (line_with_byte b (whole_lines bs))))).before ≡ []
unfolding cut_lines numbered
by_feed sign n b bs true same = rw same refl
by_feed sign n b bs false same = first_of_lines sign n b (whole_lines bs) same

by_sign : (t : Bool) → not t ≡ false → t ≡ true
by_sign true h = refl
by_sign false h = absurd cc

-- at a header or at the end no line stands before the next header
pub at_header : (sign n : ℕ) (bytes : List ℕ) → is_inner sign bytes ≡ false → (cut_from sign n bytes).before ≡ []
unfolding cut_from whole_lines
at_header sign n [] h = ap (λ (c : Cut). c.before) (cut-nil sign n)
at_header sign n (b ∷ bs) h = by_feed sign n b bs (eqb b 10) (by_sign (eqb b sign) h)

same_cut : (cut : Cut) (sections : List Section) → cut.before ≡ [] → sections ≡ cut.sections → cut ≡ record { before = []; sections = sections }
same_cut cut sections none same = λ i. record { before = none i; sections = sym same i }

-- ---- the text up to the next header

pub record Passed (sign : ℕ) (cut : Cut) (whole : List ℕ) (n : ℕ) (rest : List ℕ) : Type 0 where
  pub done : List ℕ
  pub parts : whole ≡ done ++ rest
  pub before : bytes_of_lines cut.before ≡ done ++ bytes_of_lines (cut_from sign n rest).before
  pub sections : cut.sections ≡ (cut_from sign n rest).sections

pub passed_none : (sign n : ℕ) (bytes : List ℕ) → Passed sign (cut_from sign n bytes) bytes n bytes
passed_none sign n bytes = record { done = []; parts = refl; before = refl; sections = refl }

pub passed_line : (sign : ℕ) (cut : Cut) (whole : List ℕ) (n : ℕ) (rest line more : List ℕ) → Passed sign cut whole n rest → is_inner sign rest ≡ true → 0 < length line → rest ≡ line ++ more → whole_lines rest ≡ line ∷ whole_lines more
    → Passed sign cut whole (n + 1) more
passed_line sign cut whole n rest line more so_far inner some parts lines =
    let one : cut_from sign n rest ≡ add_line false (line_at n line) (cut_from sign (n + 1) more) = cut-line sign n rest line more lines ∙ ap (λ b. add_line b (line_at n line) (cut_from sign (n + 1) more)) (inner_line sign rest line more inner parts some) in
    record {
      done = so_far.done ++ line;
      parts = so_far.parts ∙ ap (λ (t : List ℕ). so_far.done ++ t) parts ∙ sym (append_assoc so_far.done line more);
      before = so_far.before ∙ ap (λ (c : Cut). so_far.done ++ bytes_of_lines c.before) one ∙ sym (append_assoc so_far.done line (bytes_of_lines (cut_from sign (n + 1) more).before));
      sections = so_far.sections ∙ ap (λ (c : Cut). c.sections) one;
    }

pub record Ended (sign : ℕ) (cut : Cut) (whole : List ℕ) (n : ℕ) (rest : List ℕ) : Type 0 where
  pub parts : whole ≡ take (length whole - length rest) whole ++ rest
  pub text : take (length whole - length rest) whole ≡ bytes_of_lines cut.before
  pub left : cut_from sign n rest ≡ record { before = []; sections = cut.sections }

pub passed_all : (sign : ℕ) (cut : Cut) (whole : List ℕ) (n : ℕ) (rest : List ℕ) → Passed sign cut whole n rest → is_inner sign rest ≡ false → Ended sign cut whole n rest
passed_all sign cut whole n rest so_far stop =
    let none : (cut_from sign n rest).before ≡ [] = at_header sign n rest stop in
    let count : length whole - length rest ≡ length so_far.done = omega (arith, ap length so_far.parts, length-append so_far.done rest) in
    let front : take (length whole - length rest) whole ≡ so_far.done = rw count (rw so_far.parts (take-append_seam so_far.done rest)) in
    record {
      parts = so_far.parts ∙ ap (λ (t : List ℕ). t ++ rest) (sym front);
      text = front ∙ sym (so_far.before ∙ ap (λ (ls : List Line). so_far.done ++ bytes_of_lines ls) none ∙ append-nil so_far.done);
      left = same_cut (cut_from sign n rest) cut.sections none so_far.sections;
    }

-- ---- the first line that has text

abbrev pub is_found : Line → Bool
is_found line = has_text line.bytes

pub record Searched (sign : ℕ) (cut : Cut) (n : ℕ) (rest : List ℕ) : Type 0 where
  pub found : find is_found cut.before ≡ find is_found (cut_from sign n rest).before
  pub sections : cut.sections ≡ (cut_from sign n rest).sections

pub searched_none : (sign n : ℕ) (bytes : List ℕ) → Searched sign (cut_from sign n bytes) n bytes
searched_none sign n bytes = record { found = refl; sections = refl }

pub searched_line : (sign : ℕ) (cut : Cut) (n : ℕ) (rest line more : List ℕ) → Searched sign cut n rest → is_inner sign rest ≡ true → 0 < length line → rest ≡ line ++ more → whole_lines rest ≡ line ∷ whole_lines more → has_text line ≡ false
    → Searched sign cut (n + 1) more
searched_line sign cut n rest line more so_far inner some parts lines empty =
    let one : cut_from sign n rest ≡ add_line false (line_at n line) (cut_from sign (n + 1) more) = cut-line sign n rest line more lines ∙ ap (λ b. add_line b (line_at n line) (cut_from sign (n + 1) more)) (inner_line sign rest line more inner parts some) in
    let skip : find is_found (line_at n line ∷ (cut_from sign (n + 1) more).before) ≡ find is_found (cut_from sign (n + 1) more).before = rw empty refl in
    record {
      found = so_far.found ∙ ap (λ (c : Cut). find is_found c.before) one ∙ skip;
      sections = so_far.sections ∙ ap (λ (c : Cut). c.sections) one;
    }

pub searched_found : (sign : ℕ) (cut : Cut) (n : ℕ) (rest line more : List ℕ) → Searched sign cut n rest → is_inner sign rest ≡ true → 0 < length line → rest ≡ line ++ more → whole_lines rest ≡ line ∷ whole_lines more → has_text line ≡ true
    → option_map (λ (line : Line). line.number) (find is_found cut.before) ≡ Some n
searched_found sign cut n rest line more so_far inner some parts lines full =
    let one : cut_from sign n rest ≡ add_line false (line_at n line) (cut_from sign (n + 1) more) = cut-line sign n rest line more lines ∙ ap (λ b. add_line b (line_at n line) (cut_from sign (n + 1) more)) (inner_line sign rest line more inner parts some) in
    let here : find is_found (line_at n line ∷ (cut_from sign (n + 1) more).before) ≡ Some (line_at n line) = rw full refl in
    ap (option_map (λ (line : Line). line.number)) (so_far.found ∙ ap (λ (c : Cut). find is_found c.before) one ∙ here)

pub searched_all : (sign : ℕ) (cut : Cut) (n : ℕ) (rest : List ℕ) → Searched sign cut n rest → is_inner sign rest ≡ false
    → (option_map (λ (line : Line). line.number) (find is_found cut.before) ≡ None) × (cut_from sign n rest ≡ record { before = []; sections = cut.sections })
searched_all sign cut n rest so_far stop =
    let none : (cut_from sign n rest).before ≡ [] = at_header sign n rest stop in
    (ap (option_map (λ (line : Line). line.number)) (so_far.found ∙ ap (find is_found) none), same_cut (cut_from sign n rest) cut.sections none so_far.sections)

-- ---- the next section

by_header : (is : Bool) (line : Line) (cut : Cut) → (add_line is line cut).before ≡ [] → (add_line is line cut).sections ≡ section_of line cut.before ∷ cut.sections
by_header true line cut none = refl
by_header false line cut none = absurd (not_empty none)
  where
    not_empty : line ∷ cut.before ≡ [] → ⊥
    not_empty e = cc

pub section_first : (sign n sign' n' : ℕ) (bytes header rest text : List ℕ) (left : Cut) → sign' ≡ sign → n' ≡ n + 1 → (cut_from sign n bytes).before ≡ [] → whole_lines bytes ≡ header ∷ whole_lines rest
    → text ≡ bytes_of_lines (cut_from sign' n' rest).before → left ≡ record { before = []; sections = (cut_from sign' n' rest).sections }
    → (cut_from sign n bytes).sections ≡ record { line = n; header = header; text = text } ∷ left.sections
section_first sign n sign' n' bytes header rest text left same_sign next none lines is kept =
    let one : cut_from sign n bytes ≡ add_line (begins_with sign header) (line_at n header) (cut_from sign' n' rest) = cut-line sign n bytes header rest lines ∙ (λ i. add_line (begins_with sign header) (line_at n header) (cut_from (sym same_sign i) (sym next i) rest)) in
    ap (λ (c : Cut). c.sections) one
    ∙ by_header (begins_with sign header) (line_at n header) (cut_from sign' n' rest) (sym (ap (λ (c : Cut). c.before) one) ∙ none)
    ∙ (λ i. record { line = n; header = header; text = sym is i } ∷ (cut_from sign' n' rest).sections)
    ∙ ap (λ (c : Cut). record { line = n; header = header; text = text } ∷ c.sections) (sym kept)
