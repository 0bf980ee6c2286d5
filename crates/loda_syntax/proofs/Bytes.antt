-- Which bytes stand in which parts of a canonical text.
use Rattle.std.proofs.Common.{◌≡◌, ◌≢◌, ◌<◌, ◌≤◌, ◌+◌, ◌*◌, ◌-◌, ◌^◌, ℕ, zero, suc, List, [], ◌∷◌, ◌++◌, length, reverse, take, drop, Bool, true, false, not, nat_eq, nat_lt, ◌&&◌, refl, sym, ap, ◌∙◌, arith}
use Rattle.std.specs.Prelude.{Some, ◌==◌, replicate, slice_index}
use Rattle.std.specs.List.{slice_split, before_first, after_first, position_or_len}
use Rattle.std.specs.Char.{digit_value, is_ascii_digit}
use Rattle.std.specs.Fmt.{decimal}
use Rattle.std.specs.Str.Parse.{AllDigits, digits_value, digits_value_after}
use Rattle.std.proofs.lemmas.Bool.{ne_eqb, eq-eqb, ltb-true, and_parts}
use Rattle.std.proofs.lemmas.Str.{digit_value_digit}
use Rattle.std.proofs.lemmas.Str.Parse.{digit_from_value}
use Rattle.std.proofs.lemmas.Fmt.{decimal_is_IsNumeral_wide}
use Rattle.std.proofs.lemmas.List.{reverse-append, reverse-reverse, length-reverse, append-nil}
use Rattle.std.proofs.Math.Seq.{take-append_seam, take-length, drop-append-add}
use Rattle.text_parts.specs.Blanks.{is_blank, trim_front, trim_back, trim, without_return}
use Rattle.text_parts.specs.Digits.{digits_after, number_spelled}

-- ---- no byte passes a test

abbrev pub No : (ℕ → Bool) → List ℕ → Type 0
No p [] = Unit {0}
No p (b ∷ bs) = (p b ≡ false) × No p bs

pub No-append : (p : ℕ → Bool) (xs ys : List ℕ) → No p xs → No p ys → No p (xs ++ ys)
No-append p [] ys h k = k
No-append p (x ∷ xs) ys h k = (h.0, No-append p xs ys h.1 k)

position_whole : (p : ℕ → Bool) (xs : List ℕ) → No p xs → position_or_len p xs ≡ length xs
position_whole p [] h = refl
position_whole p (x ∷ xs) h = let so_far = position_whole p xs h.1 in rw h.0 (omega arith)

position_here : (p : ℕ → Bool) (xs : List ℕ) (y : ℕ) (ys : List ℕ) → No p xs → p y ≡ true → position_or_len p (xs ++ y ∷ ys) ≡ length xs
position_here p [] y ys h e = rw e refl
position_here p (x ∷ xs) y ys h e = let so_far = position_here p xs y ys h.1 e in rw h.0 (omega arith)

pub before_all : (p : ℕ → Bool) (xs : List ℕ) → No p xs → before_first p xs ≡ xs
before_all p xs h = ap (λ (n : ℕ). take n xs) (position_whole p xs h) ∙ take-length xs

pub after_all : (p : ℕ → Bool) (xs : List ℕ) → No p xs → after_first p xs ≡ []
after_all p xs h = ap (λ (n : ℕ). drop (n + 1) xs) (position_whole p xs h) ∙ ap (λ (ys : List ℕ). drop (length xs + 1) ys) (sym (append-nil xs)) ∙ drop-append-add xs [] 1

pub before_here : (p : ℕ → Bool) (xs : List ℕ) (y : ℕ) (ys : List ℕ) → No p xs → p y ≡ true → before_first p (xs ++ y ∷ ys) ≡ xs
before_here p xs y ys h e = ap (λ (n : ℕ). take n (xs ++ y ∷ ys)) (position_here p xs y ys h e) ∙ take-append_seam xs (y ∷ ys)

pub after_here : (p : ℕ → Bool) (xs : List ℕ) (y : ℕ) (ys : List ℕ) → No p xs → p y ≡ true → after_first p (xs ++ y ∷ ys) ≡ ys
after_here p xs y ys h e = ap (λ (n : ℕ). drop (n + 1) (xs ++ y ∷ ys)) (position_here p xs y ys h e) ∙ drop-append-add xs (y ∷ ys) 1

pub split_here : (p : ℕ → Bool) (xs : List ℕ) (y : ℕ) (ys : List ℕ) → No p xs → p y ≡ true → slice_split p (xs ++ y ∷ ys) ≡ xs ∷ slice_split p ys
split_here p [] y ys h e = rw e refl
split_here p (x ∷ xs) y ys h e = rw (h.0, split_here p xs y ys h.1 e) refl

pub split_all : (p : ℕ → Bool) (xs : List ℕ) → No p xs → slice_split p xs ≡ xs ∷ []
split_all p [] h = refl
split_all p (x ∷ xs) h = rw (h.0, split_all p xs h.1) refl

-- ---- the bytes of words and operands

pub record IsPlain (b : ℕ) : Type 0 where
  pub high : 35 < b
  pub no_comma : b ≢ 44
  pub no_semicolon : b ≢ 59

abbrev pub Plain : List ℕ → Type 0
Plain [] = Unit {0}
Plain (b ∷ bs) = IsPlain b × Plain bs

pub Plain-append : (xs ys : List ℕ) → Plain xs → Plain ys → Plain (xs ++ ys)
Plain-append [] ys h k = k
Plain-append (x ∷ xs) ys h k = (h.0, Plain-append xs ys h.1 k)

Plain-reverse : (xs : List ℕ) → Plain xs → Plain (reverse xs)
Plain-reverse [] h = tt
Plain-reverse (x ∷ xs) h = let last : List ℕ = x ∷ [] in rw (reverse-append last xs) (Plain-append (reverse xs) last (Plain-reverse xs h.1) (h.0, tt))

pub plain_blank : (b : ℕ) → IsPlain b → is_blank b ≡ false
plain_blank b h = let lt = h.high in rw (ne_eqb b 32 (λ e. omega arith), ne_eqb b 9 (λ e. omega arith)) refl

pub No-plain : (p : ℕ → Bool) → ((b : ℕ) → IsPlain b → p b ≡ false) → (xs : List ℕ) → Plain xs → No p xs
No-plain p fails [] h = tt
No-plain p fails (x ∷ xs) h = (fails x h.0, No-plain p fails xs h.1)

abbrev pub all_plain : List ℕ → Bool
all_plain [] = true
all_plain (b ∷ bs) = nat_lt 35 b && not (nat_eq b 44) && not (nat_eq b 59) && all_plain bs

not_equal : (b k : ℕ) → not (nat_eq b k) ≡ true → b ≢ k
not_equal b k e h = let t : nat_eq b k ≡ true = eq-eqb b k h in let f : not true ≡ true = rw t at e in absurd cc

pub plain_by_test : (bs : List ℕ) → all_plain bs ≡ true → Plain bs
plain_by_test [] e = tt
plain_by_test (b ∷ bs) e =
    let a = and_parts (nat_lt 35 b && not (nat_eq b 44) && not (nat_eq b 59)) (all_plain bs) e in
    let c = and_parts (nat_lt 35 b && not (nat_eq b 44)) (not (nat_eq b 59)) a.0 in
    let d = and_parts (nat_lt 35 b) (not (nat_eq b 44)) c.0 in
    (record { high = ltb-true 35 b d.0; no_comma = not_equal b 44 d.1; no_semicolon = not_equal b 59 c.1 }, plain_by_test bs a.1)

-- ---- numbers

digits_plain : (ds : List ℕ) → AllDigits 10 ds → Plain ds
digits_plain [] h = tt
digits_plain (d ∷ ds) h = let r = digit_from_value d h.0 in (record { high = omega (arith, r); no_comma = λ e. omega (arith, r); no_semicolon = λ e. omega (arith, r) }, digits_plain ds h.1)

pub digits_read : (n : ℕ) (ds : List ℕ) → AllDigits 10 ds → digits_after n ds ≡ Some (digits_value_after 10 n ds)
digits_read n [] h = refl
digits_read n (d ∷ ds) h =
    let r = digit_from_value d h.0 in
    let digit : is_ascii_digit d ≡ true = grind (arith, r) in
    let v = digit_value_digit d r in
    let same : 10 * n + (d - 48) ≡ n * 10 + digit_value d = omega (arith, v) in
    rw (digit, same) (digits_read (n * 10 + digit_value d) ds h.1)

-- a decimal text: a digit and others
pub record IsDecimal (n : ℕ) (ds : List ℕ) : Type 0 where
  pub first : ℕ
  pub rest : List ℕ
  pub cut : ds ≡ first ∷ rest
  pub low : 48 ≤ first
  pub high : first ≤ 57
  pub value : number_spelled ds ≡ Some n
  pub plain : Plain ds

by_first : (n : ℕ) (ds : List ℕ) → 0 < length ds → AllDigits 10 ds → digits_value 10 ds ≡ n → IsDecimal n ds
by_first n [] lt h v = absurd (omega arith)
by_first n (d ∷ ds) lt h v =
    let r = digit_from_value d h.0 in
    record {
      first = d;
      rest = ds;
      cut = refl;
      low = omega (arith, r);
      high = omega (arith, r);
      value = digits_read 0 (d ∷ ds) h ∙ ap (λ (k : ℕ). Some k) v;
      plain = digits_plain (d ∷ ds) h;
    }

pub decimal_is : (n : ℕ) → n < 2 ^ 128 → IsDecimal n (decimal n)
decimal_is n lt = let d = decimal_is_IsNumeral_wide n (omega arith) in by_first n (decimal n) d.0.0 d.0.1 d.1

-- ---- blanks at the ends

trim_front_plain : (xs ys : List ℕ) → Plain xs → 0 < length xs → trim_front (xs ++ ys) ≡ xs ++ ys
trim_front_plain [] ys h lt = absurd (omega arith)
trim_front_plain (x ∷ xs) ys h lt = rw (plain_blank x h.0) refl

pub trim_back_plain : (xs ys : List ℕ) → Plain ys → 0 < length ys → trim_back (xs ++ ys) ≡ xs ++ ys
trim_back_plain xs ys h lt =
    let turned : reverse (xs ++ ys) ≡ reverse ys ++ reverse xs = reverse-append xs ys in
    let kept = trim_front_plain (reverse ys) (reverse xs) (Plain-reverse ys h) (simp length-reverse lt) in
    ap (λ (t : List ℕ). reverse (trim_front t)) turned ∙ ap reverse kept ∙ ap reverse (sym turned) ∙ reverse-reverse (xs ++ ys)

trim_front_spaces : (n : ℕ) (xs : List ℕ) → trim_front (replicate n 32 ++ xs) ≡ trim_front xs
trim_front_spaces zero xs = refl
trim_front_spaces (suc n) xs = trim_front_spaces n xs

-- a text whose first and last bytes are plain
pub record IsEdged (text : List ℕ) : Type 0 where
  pub head : List ℕ
  pub after : List ℕ
  pub from_head : text ≡ head ++ after
  pub head_plain : Plain head
  pub head_there : 0 < length head
  pub before : List ℕ
  pub last : List ℕ
  pub to_last : text ≡ before ++ last
  pub last_plain : Plain last
  pub last_there : 0 < length last

front_kept : (text : List ℕ) → IsEdged text → trim_front text ≡ text
front_kept text e = ap trim_front e.from_head ∙ trim_front_plain e.head e.after e.head_plain e.head_there ∙ sym e.from_head

back_kept : (text : List ℕ) → IsEdged text → trim_back text ≡ text
back_kept text e = ap trim_back e.to_last ∙ trim_back_plain e.before e.last e.last_plain e.last_there ∙ sym e.to_last

pub trim_indented : (n : ℕ) (text : List ℕ) → IsEdged text → trim (replicate n 32 ++ text) ≡ text
unfolding trim
trim_indented n text e = ap trim_back (trim_front_spaces n text ∙ front_kept text e) ∙ back_kept text e

pub trim_edged : (text : List ℕ) → IsEdged text → trim text ≡ text
trim_edged text e = trim_indented 0 text e

pub edged_plain : (text : List ℕ) → Plain text → 0 < length text → IsEdged text
edged_plain text h lt = record {
  head = text;
  after = [];
  from_head = sym (append-nil text);
  head_plain = h;
  head_there = lt;
  before = [];
  last = text;
  to_last = refl;
  last_plain = h;
  last_there = lt;
}

-- ---- the bytes within a line

pub record IsInner (b : ℕ) : Type 0 where
  pub no_newline : b ≢ 10
  pub no_return : b ≢ 13
  pub no_semicolon : b ≢ 59

abbrev pub Inner : List ℕ → Type 0
Inner [] = Unit {0}
Inner (b ∷ bs) = IsInner b × Inner bs

pub Inner-append : (xs ys : List ℕ) → Inner xs → Inner ys → Inner (xs ++ ys)
Inner-append [] ys h k = k
Inner-append (x ∷ xs) ys h k = (h.0, Inner-append xs ys h.1 k)

pub Inner-plain : (xs : List ℕ) → Plain xs → Inner xs
Inner-plain [] h = tt
Inner-plain (x ∷ xs) h = let p = h.0 in let lt = p.high in (record { no_newline = λ e. omega arith; no_return = λ e. omega arith; no_semicolon = p.no_semicolon }, Inner-plain xs h.1)

pub inner_space : IsInner 32
inner_space = record { no_newline = λ e. omega arith; no_return = λ e. omega arith; no_semicolon = λ e. omega arith }

pub inner_comma : IsInner 44
inner_comma = record { no_newline = λ e. omega arith; no_return = λ e. omega arith; no_semicolon = λ e. omega arith }

pub Inner-spaces : (n : ℕ) → Inner (replicate n 32)
Inner-spaces zero = tt
Inner-spaces (suc n) = (inner_space, Inner-spaces n)

pub No-newline : (xs : List ℕ) → Inner xs → No (λ b. b == 10) xs
No-newline [] h = tt
No-newline (x ∷ xs) h = (ne_eqb x 10 (λ e. h.0.no_newline e), No-newline xs h.1)

pub No-semicolon : (xs : List ℕ) → Inner xs → No (λ b. b == 59) xs
No-semicolon [] h = tt
No-semicolon (x ∷ xs) h = (ne_eqb x 59 (λ e. h.0.no_semicolon e), No-semicolon xs h.1)

byte_in : (xs : List ℕ) (k : ℕ) → Inner xs → slice_index xs k ≢ 13
byte_in [] k h e = omega arith
byte_in (x ∷ xs) zero h e = h.0.no_return e
byte_in (x ∷ xs) (suc k) h e = byte_in xs k h.1 e

pub return_kept : (xs : List ℕ) → Inner xs → without_return xs ≡ xs
unfolding without_return
return_kept xs h = rw (ne_eqb (slice_index xs (length xs - 1)) 13 (byte_in xs (length xs - 1) h)) refl
