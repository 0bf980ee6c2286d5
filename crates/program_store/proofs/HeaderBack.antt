-- A header that was printed is read as the name and the count that it was printed of.
use Rattle.std.proofs.Common.{ℕ, ◌≡◌, ◌+◌, ◌-◌, ◌*◌, ◌/◌, ◌%◌, ◌^◌, ◌<◌, ◌≤◌, true, false, eqb, List, [], ◌∷◌, ◌++◌, length, get_or, reverse, refl, sym, ap, ◌∙◌, append_assoc, length-append, arith}
use Rattle.std.specs.Prelude.{Some, slice_index, codes}
use Rattle.std.specs.Option.{option_and_then}
use Rattle.std.specs.Char.{is_ascii_digit}
use Rattle.std.specs.Fmt.{decimal}
use Rattle.std.proofs.lemmas.Bool.{ne_eqb}
use Rattle.std.proofs.lemmas.Bool.Decides.{nat_tests}
use Rattle.std.proofs.lemmas.Fmt.{first_decimal, decimal_nonempty}
use Rattle.std.proofs.lemmas.List.{reverse-append, reverse-reverse, length-reverse}
use Rattle.std.proofs.Math.Seq.{take-append_seam, get_or-append_seam}
use Rattle.text_parts.specs.Blanks.{trim_front, without_return, trim_back}
use Rattle.text_parts.specs.Digits.{digits_after, number_spelled, decimal_spelled}
use Rattle.text_parts.proofs.NameBack.{name_back}
use Rattle.loda_syntax.proofs.Bytes.{trim_back_plain, No, before_here, after_here, decimal_is, Plain, Inner, Inner-append, Inner-plain, IsInner, Plain-append, plain_blank, inner_space, return_kept}
use Rattle.text_parts.specs.Names.{IsName, last_digits, name_text, if_not_zero, name_read}
use Rattle.program_store.specs.Sections.{without_feed, begins_with}
use Rattle.program_store.specs.Headers.{store_header, text_behind, is_space, header_content, name_and_count, store_header_read}

-- ---- a count

first_kept : (ds : List ℕ) → 48 < get_or ds 0 0 → decimal_spelled ds ≡ number_spelled ds
first_kept [] lt = refl
first_kept (d ∷ []) lt = refl
first_kept (d ∷ c ∷ ds) lt = rw (ne_eqb d 48 (λ e. omega arith)) refl

pub count_back : (count : ℕ) → 0 < count → count < 2 ^ 64 → decimal_spelled (decimal count) ≡ Some count
count_back count some small = first_kept (decimal count) (first_decimal count some small) ∙ (decimal_is count (omega arith)).value

-- ---- the header's line

no_space : (q : ℕ) → No is_space (name_text q)
unfolding name_text
no_space q = (refl, (digit_no_space _, (digit_no_space _, (digit_no_space _, (digit_no_space _, (digit_no_space _, (digit_no_space _, tt)))))))
  where
    digit_no_space : (d : ℕ) → eqb (48 + d) 32 ≡ false
    digit_no_space d = ne_eqb (48 + d) 32 (λ e. omega arith)

pub parts_back : (q count : ℕ) → IsName q → 0 < count → count < 2 ^ 64 → name_and_count (name_text q ++ 32 ∷ decimal count) ≡ Some (q, count)
unfolding name_and_count
parts_back q count named some small =
    rw (before_here is_space (name_text q) 32 (decimal count) (no_space q) refl, after_here is_space (name_text q) 32 (decimal count) (no_space q) refl, name_back q named, count_back count some small) refl

digit_inner : (d : ℕ) → d < 10 → IsInner (48 + d)
digit_inner d lt = record { no_newline = λ e. omega arith; no_return = λ e. omega arith; no_semicolon = λ e. omega arith }

name_inner : (q : ℕ) → Inner (name_text q)
unfolding name_text
name_inner q = (record { no_newline = λ e. omega arith; no_return = λ e. omega arith; no_semicolon = λ e. omega arith }, (digit_inner _ (omega arith), (digit_inner _ (omega arith), (digit_inner _ (omega arith), (digit_inner _ (omega arith), (digit_inner _ (omega arith), (digit_inner _ (omega arith), tt)))))))

decimal_inner : (n : ℕ) → n < 2 ^ 64 → Inner (decimal n)
decimal_inner n small = Inner-plain (decimal n) (decimal_is n (omega arith)).plain

inner_equals : IsInner 61
inner_equals = record { no_newline = λ e. omega arith; no_return = λ e. omega arith; no_semicolon = λ e. omega arith }

-- a header in its parts: the sign, a space, the name, a space, the count
pub header-parts : (q count : ℕ) → store_header q count ≡ 61 ∷ 32 ∷ (name_text q ++ 32 ∷ decimal count)
unfolding store_header name_text
header-parts q count = refl

pub header_inner : (q count : ℕ) → count < 2 ^ 64 → Inner (store_header q count)
header_inner q count small =
    rw header-parts (inner_equals, (inner_space, Inner-append (name_text q) (32 ∷ decimal count) (name_inner q) (inner_space, decimal_inner count small)))

last_at : (xs : List ℕ) (y : ℕ) → slice_index (xs ++ y ∷ []) (length (xs ++ y ∷ []) - 1) ≡ y
last_at xs y = let count : length (xs ++ y ∷ []) - 1 ≡ length xs = omega (arith, length-append xs (y ∷ [])) in ap (λ n. get_or (xs ++ y ∷ []) n 0) count ∙ get_or-append_seam xs y [] 0

feed_dropped : (xs : List ℕ) → without_feed (xs ++ 10 ∷ []) ≡ xs
unfolding without_feed
feed_dropped xs =
    let count : length (xs ++ 10 ∷ []) - 1 ≡ length xs = omega (arith, length-append xs (10 ∷ [])) in
    rw last_at (rw count (take-append_seam xs (10 ∷ [])))

content_back : (q count : ℕ) → count < 2 ^ 64 → header_content (store_header q count ++ 10 ∷ []) ≡ store_header q count
unfolding header_content
content_back q count small =
    ap (λ (t : List ℕ). trim_back (without_return t)) (feed_dropped (store_header q count))
    ∙ ap trim_back (return_kept (store_header q count) (header_inner q count small))
    ∙ ap trim_back (header-parts q count ∙ sym (append_assoc (61 ∷ 32 ∷ name_text q) (32 ∷ []) (decimal count)))
    ∙ trim_back_plain ((61 ∷ 32 ∷ name_text q) ++ 32 ∷ []) (decimal count) (decimal_is count (omega arith)).plain (decimal_nonempty count small)
    ∙ sym (header-parts q count ∙ sym (append_assoc (61 ∷ 32 ∷ name_text q) (32 ∷ []) (decimal count)))

pub header_back : (q count : ℕ) → IsName q → 0 < count → count < 2 ^ 64 → store_header_read (store_header q count ++ 10 ∷ []) ≡ Some (q, count)
unfolding store_header_read
header_back q count named some small =
    ap (λ (t : List ℕ). option_and_then name_and_count (text_behind (codes "= ") t)) (content_back q count small ∙ header-parts q count)
    ∙ parts_back q count named some small
