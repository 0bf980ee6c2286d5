-- The first byte past a limit, by the lines of the file.
use Rattle.std.proofs.Common.{◌≡◌, ℕ, ◌+◌, ◌<◌, ◌≤◌, Bool, true, false, cond, eqb, List, [], ◌∷◌, ◌++◌, length, refl, sym, ap, subst, ◌∙◌, append_assoc, arith}
use Rattle.std.specs.Prelude.{Option, Some, None, Ok, Err, ◌==◌}
use Rattle.std.specs.List.{onto_first}
use Rattle.std.proofs.lemmas.List.{append-nil, length-append}
use Rattle.std.proofs.lemmas.List.Elements.{All-nil, All-cons, All-head, All-tail}
use Rattle.std.proofs.lemmas.Bool.Decides.{Decides-eqb}
use Rattle.loda_io.specs.declared.ReadError.{ReadError}
use Rattle.loda_io.specs.declared.ReadError.TheVariants.{FileTooLarge, LineTooLong}
use Rattle.loda_io.specs.Shelf.{Spot, first_past_limit, beginning, file_unless, checked}
use Rattle.loda_io.specs.Whole.{IsShort, AreShort, size_of, file_lines, IsWhole, IsFirstTooLong, IsTooLarge}
use Rattle.loda_io.proofs.Faults.{IfFault, first_faults}
use Rattle.loda_io.specs.declared.scan.TheConstants.{FILE_LIMIT, LINE_LIMIT}

-- ---- the lines, where some bytes of the first have been read

pub lines_from : List ℕ → List ℕ → List (List ℕ)
lines_from line [] = line ∷ []
lines_from line (b ∷ bs) = cond (eqb b 10) (line ∷ lines_from [] bs) (lines_from (line ++ b ∷ []) bs)

lines_ended : (line : List ℕ) (b : ℕ) (bs : List ℕ) → (b == 10) ≡ true → lines_from line (b ∷ bs) ≡ line ∷ lines_from [] bs
unfolding lines_from
lines_ended line b bs e = rw e refl

lines_longer : (line : List ℕ) (b : ℕ) (bs : List ℕ) → (b == 10) ≡ false → lines_from line (b ∷ bs) ≡ lines_from (line ++ b ∷ []) bs
unfolding lines_from
lines_longer line b bs e = rw e refl

-- some bytes in front of the first line
onto : List ℕ → List (List ℕ) → List (List ℕ)
onto line [] = line ∷ []
onto line (l ∷ ls) = (line ++ l) ∷ ls

onto-onto_first : (line : List ℕ) (b : ℕ) (ls : List (List ℕ)) → onto (line ++ b ∷ []) ls ≡ onto line (onto_first b ls)
unfolding onto
onto-onto_first line b [] = refl
onto-onto_first line b (l ∷ ls) = ap (λ (t : List ℕ). t ∷ ls) (append_assoc line (b ∷ []) l)

split_step : (t : Bool) (line : List ℕ) (b : ℕ) (rest : List (List ℕ)) → onto [] rest ≡ rest
    → cond t (line ∷ onto [] rest) (onto (line ++ b ∷ []) rest) ≡ onto line (cond t ([] ∷ rest) (onto_first b rest))
unfolding onto
split_step true line b rest e = rw e (ap (λ (t : List ℕ). t ∷ rest) (sym (append-nil line)))
split_step false line b rest e = onto-onto_first line b rest

onto_none_step : (t : Bool) (b : ℕ) (rest : List (List ℕ)) → onto [] (cond t ([] ∷ rest) (onto_first b rest)) ≡ cond t ([] ∷ rest) (onto_first b rest)
unfolding onto
onto_none_step true b rest = refl
onto_none_step false b [] = refl
onto_none_step false b (l ∷ ls) = refl

onto_none : (bs : List ℕ) → onto [] (file_lines bs) ≡ file_lines bs
unfolding onto
onto_none [] = refl
onto_none (b ∷ bs) = onto_none_step (eqb b 10) b (file_lines bs)

lines_from-onto : (bs line : List ℕ) → lines_from line bs ≡ onto line (file_lines bs)
unfolding lines_from onto
lines_from-onto [] line = ap (λ (t : List ℕ). t ∷ []) (sym (append-nil line))
lines_from-onto (b ∷ bs) line =
    (λ i. cond (eqb b 10) (line ∷ lines_from-onto bs [] i) (lines_from-onto bs (line ++ b ∷ []) i))
    ∙ split_step (eqb b 10) line b (file_lines bs) (onto_none bs)

pub lines_from-is : (file : List ℕ) → lines_from [] file ≡ file_lines file
lines_from-is file = lines_from-onto file [] ∙ onto_none file

-- the first line has what was read of it
record HasFirst (line : List ℕ) (lines : List (List ℕ)) : Type 0 where
  first : List ℕ
  others : List (List ℕ)
  cut : lines ≡ first ∷ others
  least : length line ≤ length first

first_step : (t : Bool) (line : List ℕ) (b : ℕ) (bs : List ℕ) → HasFirst (line ++ b ∷ []) (lines_from (line ++ b ∷ []) bs)
    → HasFirst line (cond t (line ∷ lines_from [] bs) (lines_from (line ++ b ∷ []) bs))
first_step true line b bs h = record { first = line; others = lines_from [] bs; cut = refl; least = omega arith }
first_step false line b bs h = record { first = h.first; others = h.others; cut = h.cut; least = omega (arith, h.least, length-append line (b ∷ [])) }

has_first : (bs line : List ℕ) → HasFirst line (lines_from line bs)
unfolding lines_from
has_first [] line = record { first = line; others = []; cut = refl; least = omega arith }
has_first (b ∷ bs) line = first_step (eqb b 10) line b bs (has_first bs (line ++ b ∷ []))

-- ---- one byte

next_line : Spot → Spot
next_line s = record { at = s.at + 1; line = s.line + 1; column = 0 }

next_byte : Spot → Spot
next_byte s = record { at = s.at + 1; line = s.line; column = s.column + 1 }

data Step (s : Spot) (b : ℕ) (bs : List ℕ) : Type 0 where
  full : s.at ≡ FILE_LIMIT → first_past_limit s (b ∷ bs) ≡ Some (FileTooLarge (FILE_LIMIT + 1)) → Step s b bs
  ended : (s.at ≡ FILE_LIMIT → ⊥) → (b == 10) ≡ true → first_past_limit s (b ∷ bs) ≡ first_past_limit (next_line s) bs → Step s b bs
  past : (s.at ≡ FILE_LIMIT → ⊥) → (b == 10) ≡ false → s.column ≡ LINE_LIMIT → first_past_limit s (b ∷ bs) ≡ Some (LineTooLong s.line) → Step s b bs
  longer : (s.at ≡ FILE_LIMIT → ⊥) → (b == 10) ≡ false → (s.column ≡ LINE_LIMIT → ⊥) → first_past_limit s (b ∷ bs) ≡ first_past_limit (next_byte s) bs → Step s b bs

is : (x y : ℕ) → (x == y) ≡ true → x ≡ y
is x y e = (Decides-eqb x y).0 e

isnt : (x y : ℕ) → (x == y) ≡ false → x ≡ y → ⊥
isnt x y e same = let yes = (Decides-eqb x y).1 same in let no : ⊥ = cc in no

column_test : (t : Bool) (s : Spot) (b : ℕ) (bs : List ℕ) → (s.column == LINE_LIMIT) ≡ t → (s.at == FILE_LIMIT) ≡ false → (b == 10) ≡ false → Step s b bs
unfolding first_past_limit next_byte
column_test true s b bs c a l = past (isnt s.at FILE_LIMIT a) l (is s.column LINE_LIMIT c) (rw a (rw l (rw c refl)))
column_test false s b bs c a l = longer (isnt s.at FILE_LIMIT a) l (isnt s.column LINE_LIMIT c) (rw a (rw l (rw c refl)))

feed_test : (t : Bool) (s : Spot) (b : ℕ) (bs : List ℕ) → (b == 10) ≡ t → (s.at == FILE_LIMIT) ≡ false → Step s b bs
unfolding first_past_limit next_line
feed_test true s b bs l a = ended (isnt s.at FILE_LIMIT a) l (rw a (rw l refl))
feed_test false s b bs l a = column_test (s.column == LINE_LIMIT) s b bs refl a l

size_test : (t : Bool) (s : Spot) (b : ℕ) (bs : List ℕ) → (s.at == FILE_LIMIT) ≡ t → Step s b bs
unfolding first_past_limit
size_test true s b bs a = full (is s.at FILE_LIMIT a) (rw a refl)
size_test false s b bs a = feed_test (b == 10) s b bs refl a

step_of : (s : Spot) (b : ℕ) (bs : List ℕ) → Step s b bs
step_of s b bs = size_test (s.at == FILE_LIMIT) s b bs refl

-- a spot within the limits, behind these bytes of its line
pub record IsBehind (s : Spot) (line : List ℕ) : Type 0 where
  pub at : s.at ≤ FILE_LIMIT
  pub here : s.column ≡ length line
  pub column : s.column ≤ LINE_LIMIT
  pub start : length line ≤ s.at

behind_line : (s : Spot) (line : List ℕ) → IsBehind s line → (s.at ≡ FILE_LIMIT → ⊥) → IsBehind (next_line s) []
unfolding next_line
behind_line s line h a = record { at = omega (arith, h.at, a); here = refl; column = omega arith; start = omega arith }

behind_byte : (s : Spot) (line : List ℕ) (b : ℕ) → IsBehind s line → (s.at ≡ FILE_LIMIT → ⊥) → (s.column ≡ LINE_LIMIT → ⊥) → IsBehind (next_byte s) (line ++ b ∷ [])
unfolding next_byte
behind_byte s line b h a c =
    let len = length-append line (b ∷ []) in
    record { at = omega (arith, h.at, a); here = omega (arith, h.here, len); column = omega (arith, h.column, c); start = omega (arith, h.start, len) }

-- ---- no fault

Fits : Spot → List ℕ → List ℕ → Type 0
Fits s line bs = (s.at + length bs ≤ FILE_LIMIT) × AreShort (lines_from line bs)

fits_step : (s : Spot) (line : List ℕ) (b : ℕ) (bs : List ℕ) → IsBehind s line → Step s b bs
    → ((t : Spot) (l : List ℕ) → IsBehind t l → first_past_limit t bs ≡ None → Fits t l bs)
    → first_past_limit s (b ∷ bs) ≡ None → Fits s line (b ∷ bs)
unfolding Fits next_line next_byte
fits_step s line b bs h (full at e) rest none = absurd cc
fits_step s line b bs h (ended a l e) rest none =
    let r = rest (next_line s) [] (behind_line s line h a) (sym e ∙ none) in
    (omega (arith, r.0), subst (λ (t : List (List ℕ)). AreShort t) (sym (lines_ended line b bs l)) (All-cons IsShort line (lines_from [] bs) (omega (arith, h.here, h.column)) r.1))
fits_step s line b bs h (past a l c e) rest none = absurd cc
fits_step s line b bs h (longer a l c e) rest none =
    let r = rest (next_byte s) (line ++ b ∷ []) (behind_byte s line b h a c) (sym e ∙ none) in
    (omega (arith, r.0), subst (λ (t : List (List ℕ)). AreShort t) (sym (lines_longer line b bs l)) r.1)

fits_none : (bs : List ℕ) (s : Spot) (line : List ℕ) → IsBehind s line → first_past_limit s bs ≡ None → Fits s line bs
unfolding Fits lines_from
fits_none [] s line h none = (omega (arith, h.at), All-cons IsShort line [] (omega (arith, h.here, h.column)) (All-nil IsShort))
fits_none (b ∷ bs) s line h none = fits_step s line b bs h (step_of s b bs) (fits_none bs) none

none_step : (s : Spot) (line : List ℕ) (b : ℕ) (bs : List ℕ) → IsBehind s line → Step s b bs
    → ((t : Spot) (l : List ℕ) → IsBehind t l → Fits t l bs → first_past_limit t bs ≡ None)
    → Fits s line (b ∷ bs) → first_past_limit s (b ∷ bs) ≡ None
unfolding Fits next_line next_byte
none_step s line b bs h (full at e) rest fits = absurd (omega (arith, at, fits.0))
none_step s line b bs h (ended a l e) rest fits =
    let short : AreShort (line ∷ lines_from [] bs) = subst (λ (t : List (List ℕ)). AreShort t) (lines_ended line b bs l) fits.1 in
    e ∙ rest (next_line s) [] (behind_line s line h a) (omega (arith, fits.0), All-tail IsShort line (lines_from [] bs) short)
none_step s line b bs h (past a l c e) rest fits =
    let longer : List ℕ = line ++ b ∷ [] in
    let f = has_first bs longer in
    let short : AreShort (f.first ∷ f.others) = subst (λ (t : List (List ℕ)). AreShort t) (lines_longer line b bs l ∙ f.cut) fits.1 in
    let head = All-head IsShort f.first f.others short in
    absurd (omega (arith, head, f.least, length-append line (b ∷ []), h.here, c))
none_step s line b bs h (longer a l c e) rest fits =
    e ∙ rest (next_byte s) (line ++ b ∷ []) (behind_byte s line b h a c) (omega (arith, fits.0), subst (λ (t : List (List ℕ)). AreShort t) (lines_longer line b bs l) fits.1)

none_fits : (bs : List ℕ) (s : Spot) (line : List ℕ) → IsBehind s line → Fits s line bs → first_past_limit s bs ≡ None
unfolding first_past_limit
none_fits [] s line h fits = refl
none_fits (b ∷ bs) s line h fits = none_step s line b bs h (step_of s b bs) (none_fits bs) fits

-- ---- a line that is too long

-- the line of that number is the first that is too long, where the lines begin behind so many bytes, with that number
pub record IsLongFrom (start number : ℕ) (lines : List (List ℕ)) (n : ℕ) : Type 0 where
  pub before : List (List ℕ)
  pub text : List ℕ
  pub after : List (List ℕ)
  pub cut : lines ≡ before ++ text ∷ after
  pub numbered : n ≡ number + length before
  pub short : AreShort before
  pub long : LINE_LIMIT < length text
  pub first : start + size_of before + LINE_LIMIT < FILE_LIMIT

one_later : (start number n : ℕ) (line : List ℕ) (lines : List (List ℕ)) → length line ≤ LINE_LIMIT
    → IsLongFrom (start + length line + 1) (number + 1) lines n → IsLongFrom start number (line ∷ lines) n
one_later start number n line lines short k = record {
  before = line ∷ k.before;
  text = k.text;
  after = k.after;
  cut = ap (λ (t : List (List ℕ)). line ∷ t) k.cut;
  numbered = omega (arith, k.numbered);
  short = All-cons IsShort line k.before short k.short;
  long = k.long;
  first = omega (arith, k.first);
}

tail_of : {A : Type 0} (x y : A) (xs ys : List A) → x ∷ xs ≡ y ∷ ys → (x ≡ y) × (xs ≡ ys)
tail_of x y xs ys e = (cc, cc)

one_sooner : (start number n : ℕ) (line : List ℕ) (lines before : List (List ℕ)) (text : List ℕ) (after : List (List ℕ)) → length line ≤ LINE_LIMIT
    → line ∷ lines ≡ before ++ text ∷ after → n ≡ number + length before → AreShort before → LINE_LIMIT < length text → start + size_of before + LINE_LIMIT < FILE_LIMIT
    → IsLongFrom (start + length line + 1) (number + 1) lines n
one_sooner start number n line lines [] text after fits cut numbered short long first =
    let e = tail_of line text lines after cut in
    let len : length line ≡ length text = ap (λ (t : List ℕ). length t) e.0 in
    absurd (omega (arith, fits, long, len))
one_sooner start number n line lines (l ∷ before) text after fits cut numbered short long first =
    let e = tail_of line l lines (before ++ text ∷ after) cut in
    let len : length line ≡ length l = ap (λ (t : List ℕ). length t) e.0 in
    record {
      before = before;
      text = text;
      after = after;
      cut = e.1;
      numbered = omega (arith, numbered);
      short = All-tail IsShort l before short;
      long = long;
      first = omega (arith, first, len);
    }

-- the first line is the one
at_first : (number n : ℕ) (first : List ℕ) (others before : List (List ℕ)) (text : List ℕ) (after : List (List ℕ)) → LINE_LIMIT < length first
    → first ∷ others ≡ before ++ text ∷ after → n ≡ number + length before → AreShort before → n ≡ number
at_first number n first others [] text after long cut numbered short = omega (arith, numbered)
at_first number n first others (l ∷ before) text after long cut numbered short =
    let e = tail_of first l others (before ++ text ∷ after) cut in
    let len : length first ≡ length l = ap (λ (t : List ℕ). length t) e.0 in
    let head = All-head IsShort l before short in
    absurd (omega (arith, long, len, head))

-- where the file's limit has been reached, no line is too long before it
none_left : (start : ℕ) (line first : List ℕ) (others before : List (List ℕ)) (text : List ℕ) (after : List (List ℕ)) → start + length line ≡ FILE_LIMIT → length line ≤ LINE_LIMIT
    → length line ≤ length first → first ∷ others ≡ before ++ text ∷ after → start + size_of before + LINE_LIMIT < FILE_LIMIT → ⊥
none_left start line first others [] text after there small least cut early = omega (arith, there, small, early)
none_left start line first others (l ∷ before) text after there small least cut early =
    let e = tail_of first l others (before ++ text ∷ after) cut in
    let len : length first ≡ length l = ap (λ (t : List ℕ). length t) e.0 in
    omega (arith, there, least, len, early)

none_there : (before : List (List ℕ)) (text : List ℕ) (after : List (List ℕ)) → [] ≡ before ++ text ∷ after → ⊥
none_there [] text after e = let no : ⊥ = cc in no
none_there (l ∷ before) text after e = let no : ⊥ = cc in no

long_step : (s : Spot) (line : List ℕ) (b : ℕ) (bs : List ℕ) (start n : ℕ) → IsBehind s line → start + length line ≡ s.at → Step s b bs
    → ((t : Spot) (l : List ℕ) (from : ℕ) → IsBehind t l → from + length l ≡ t.at → first_past_limit t bs ≡ Some (LineTooLong n) → IsLongFrom from t.line (lines_from l bs) n)
    → first_past_limit s (b ∷ bs) ≡ Some (LineTooLong n) → IsLongFrom start s.line (lines_from line (b ∷ bs)) n
unfolding next_line next_byte
long_step s line b bs start n h here (full at e) rest fault = absurd cc
long_step s line b bs start n h here (ended a l e) rest fault =
    let k = rest (next_line s) [] (start + length line + 1) (behind_line s line h a) (omega (arith, here)) (sym e ∙ fault) in
    subst (λ (t : List (List ℕ)). IsLongFrom start s.line t n) (sym (lines_ended line b bs l)) (one_later start s.line n line (lines_from [] bs) (omega (arith, h.here, h.column)) k)
long_step s line b bs start n h here (past a l c e) rest fault =
    let longer : List ℕ = line ++ b ∷ [] in
    let f = has_first bs longer in
    let len = length-append line (b ∷ []) in
    let same : s.line ≡ n = cc in
    record {
      before = [];
      text = f.first;
      after = f.others;
      cut = lines_longer line b bs l ∙ f.cut;
      numbered = omega (arith, same);
      short = All-nil IsShort;
      long = omega (arith, f.least, len, h.here, c);
      first = omega (arith, here, h.here, c, h.at, a);
    }
long_step s line b bs start n h here (longer a l c e) rest fault =
    let k = rest (next_byte s) (line ++ b ∷ []) start (behind_byte s line b h a c) (omega (arith, here, length-append line (b ∷ []))) (sym e ∙ fault) in
    subst (λ (t : List (List ℕ)). IsLongFrom start s.line t n) (sym (lines_longer line b bs l)) k

long_from : (bs : List ℕ) (n : ℕ) (s : Spot) (line : List ℕ) (start : ℕ) → IsBehind s line → start + length line ≡ s.at
    → first_past_limit s bs ≡ Some (LineTooLong n) → IsLongFrom start s.line (lines_from line bs) n
unfolding first_past_limit
long_from [] n s line start h here fault = absurd cc
long_from (b ∷ bs) n s line start h here fault = long_step s line b bs start n h here (step_of s b bs) (long_from bs n) fault

from_step : (s : Spot) (line : List ℕ) (b : ℕ) (bs : List ℕ) (start n : ℕ) → IsBehind s line → start + length line ≡ s.at → Step s b bs
    → ((t : Spot) (l : List ℕ) (from : ℕ) → IsBehind t l → from + length l ≡ t.at → IsLongFrom from t.line (lines_from l bs) n → first_past_limit t bs ≡ Some (LineTooLong n))
    → IsLongFrom start s.line (lines_from line (b ∷ bs)) n → first_past_limit s (b ∷ bs) ≡ Some (LineTooLong n)
unfolding next_line next_byte
from_step s line b bs start n h here (full at e) rest k =
    let f = has_first (b ∷ bs) line in
    absurd (none_left start line f.first f.others k.before k.text k.after (here ∙ at) (omega (arith, h.here, h.column)) f.least (sym f.cut ∙ k.cut) k.first)
from_step s line b bs start n h here (ended a l e) rest k =
    let later = one_sooner start s.line n line (lines_from [] bs) k.before k.text k.after (omega (arith, h.here, h.column)) (sym (lines_ended line b bs l) ∙ k.cut) k.numbered k.short k.long k.first in
    e ∙ rest (next_line s) [] (start + length line + 1) (behind_line s line h a) (omega (arith, here)) later
from_step s line b bs start n h here (past a l c e) rest k =
    let longer : List ℕ = line ++ b ∷ [] in
    let f = has_first bs longer in
    let long : LINE_LIMIT < length f.first = omega (arith, f.least, length-append line (b ∷ []), h.here, c) in
    let same = at_first s.line n f.first f.others k.before k.text k.after long (sym (lines_longer line b bs l ∙ f.cut) ∙ k.cut) k.numbered k.short in
    e ∙ ap (λ (m : ℕ). Some (LineTooLong m)) (sym same)
from_step s line b bs start n h here (longer a l c e) rest k =
    e
    ∙ rest (next_byte s) (line ++ b ∷ []) start (behind_byte s line b h a c) (omega (arith, here, length-append line (b ∷ [])))
    (subst (λ (t : List (List ℕ)). IsLongFrom start s.line t n) (lines_longer line b bs l) k)

from_long : (bs : List ℕ) (n : ℕ) (s : Spot) (line : List ℕ) (start : ℕ) → IsBehind s line → start + length line ≡ s.at
    → IsLongFrom start s.line (lines_from line bs) n → first_past_limit s bs ≡ Some (LineTooLong n)
unfolding lines_from
from_long [] n s line start h here k =
    let later = one_sooner start s.line n line [] k.before k.text k.after (omega (arith, h.here, h.column)) k.cut k.numbered k.short k.long k.first in
    absurd (none_there later.before later.text later.after later.cut)
from_long (b ∷ bs) n s line start h here k = from_step s line b bs start n h here (step_of s b bs) (from_long bs n) k

-- ---- a file that is too large

large_step : (s : Spot) (line : List ℕ) (b : ℕ) (bs : List ℕ) (z : ℕ) → IsBehind s line → Step s b bs
    → ((t : Spot) (l : List ℕ) → IsBehind t l → first_past_limit t bs ≡ Some (FileTooLarge z) → FILE_LIMIT < t.at + length bs)
    → first_past_limit s (b ∷ bs) ≡ Some (FileTooLarge z) → FILE_LIMIT < s.at + length (b ∷ bs)
unfolding next_line next_byte
large_step s line b bs z h (full at e) rest fault = omega (arith, at)
large_step s line b bs z h (ended a l e) rest fault = omega (arith, rest (next_line s) [] (behind_line s line h a) (sym e ∙ fault))
large_step s line b bs z h (past a l c e) rest fault = absurd cc
large_step s line b bs z h (longer a l c e) rest fault = omega (arith, rest (next_byte s) (line ++ b ∷ []) (behind_byte s line b h a c) (sym e ∙ fault))

large_size : (bs : List ℕ) (z : ℕ) (s : Spot) (line : List ℕ) → IsBehind s line → first_past_limit s bs ≡ Some (FileTooLarge z) → FILE_LIMIT < s.at + length bs
unfolding first_past_limit
large_size [] z s line h fault = absurd cc
large_size (b ∷ bs) z s line h fault = large_step s line b bs z h (step_of s b bs) (large_size bs z) fault

-- ---- a whole file

behind_none : IsBehind beginning []
behind_none = record { at = omega arith; here = refl; column = omega arith; start = omega arith }

unless_none : (o : Option ReadError) (file : List ℕ) → file_unless o file ≡ Ok file → o ≡ None
unless_none None file e = refl
unless_none (Some x) file e = absurd cc

unless_some : (o : Option ReadError) (file : List ℕ) (x : ReadError) → file_unless o file ≡ Err x → o ≡ Some x
unless_some None file x e = absurd cc
unless_some (Some y) file x e = cc

pub checked-whole : (file : List ℕ) → (checked file ≡ Ok file → IsWhole file) × (IsWhole file → checked file ≡ Ok file)
unfolding Fits
checked-whole file = (
  λ e.
      let fits = fits_none file beginning [] behind_none (unless_none (first_past_limit beginning file) file e) in
      record { size = omega (arith, fits.0); lines = subst (λ (t : List (List ℕ)). AreShort t) (lines_from-is file) fits.1 },
  λ w.
      ap (λ (o : Option ReadError). file_unless o file)
      (none_fits file beginning [] behind_none (omega (arith, w.size), subst (λ (t : List (List ℕ)). AreShort t) (sym (lines_from-is file)) w.lines)),
)

long_fault : (file : List ℕ) (n : ℕ) → IsFirstTooLong file n → first_past_limit beginning file ≡ Some (LineTooLong n)
long_fault file n w =
    from_long file n beginning [] 0 behind_none refl
    (record {
      before = w.before;
      text = w.text;
      after = w.after;
      cut = lines_from-is file ∙ w.cut;
      numbered = omega (arith, w.numbered);
      short = w.short;
      long = w.long;
      first = omega (arith, w.first);
    })

fault_long : (file : List ℕ) (n : ℕ) → first_past_limit beginning file ≡ Some (LineTooLong n) → IsFirstTooLong file n
fault_long file n e =
    let k = long_from file n beginning [] 0 behind_none refl e in
    record {
      before = k.before;
      text = k.text;
      after = k.after;
      cut = sym (lines_from-is file) ∙ k.cut;
      numbered = omega (arith, k.numbered);
      short = k.short;
      long = k.long;
      first = omega (arith, k.first);
    }

pub checked-long : (file : List ℕ) (n : ℕ) → (checked file ≡ Err (LineTooLong n) → IsFirstTooLong file n) × (IsFirstTooLong file n → checked file ≡ Err (LineTooLong n))
checked-long file n = (
  λ e. fault_long file n (unless_some (first_past_limit beginning file) file (LineTooLong n) e),
  λ w. ap (λ (o : Option ReadError). file_unless o file) (long_fault file n w),
)

large_case : (file : List ℕ) (o : Option ReadError) → first_past_limit beginning file ≡ o → IfFault o → IsTooLarge file → file_unless o file ≡ Err (FileTooLarge (FILE_LIMIT + 1))
unfolding Fits
large_case file None e f w = let fits = fits_none file beginning [] behind_none e in absurd (omega (arith, fits.0, w.size))
large_case file (Some (FileTooLarge size)) e f w = ap (λ (z : ℕ). Err (FileTooLarge z)) f
large_case file (Some (LineTooLong n)) e f w = absurd (w.no_line n (fault_long file n e))
large_case file (Some x) e f w = absurd f

two_faults : (file : List ℕ) (z n : ℕ) → first_past_limit beginning file ≡ Some (FileTooLarge z) → first_past_limit beginning file ≡ Some (LineTooLong n) → ⊥
two_faults file z n e f = let no : ⊥ = cc in no

pub checked-large : (file : List ℕ) → (checked file ≡ Err (FileTooLarge (FILE_LIMIT + 1)) → IsTooLarge file) × (IsTooLarge file → checked file ≡ Err (FileTooLarge (FILE_LIMIT + 1)))
checked-large file = (
  λ e.
      let fault = unless_some (first_past_limit beginning file) file (FileTooLarge (FILE_LIMIT + 1)) e in
      record {
        size = omega (arith, large_size file (FILE_LIMIT + 1) beginning [] behind_none fault);
        no_line = λ n w. two_faults file (FILE_LIMIT + 1) n fault (long_fault file n w);
      },
  λ w. large_case file (first_past_limit beginning file) refl (first_faults file beginning) w,
)
