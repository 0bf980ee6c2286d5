-- One line of the stripped file of the OEIS.
use Rattle.std.specs.Prelude.{ℕ, ◌+◌, ◌==◌, ◌||◌, ◌&&◌, nat_le, Bool, if◌then◌else◌, ℤ, List, [], ◌∷◌, length, take, drop, slice_index, take_while, Option, Some, None, Result, Ok, Err}
use Rattle.text_parts.specs.Names.{name_read}
use Rattle.checked_numbers.specs.Numbers.{is_number}
use Rattle.oeis_terms.specs.declared.error.TermsKind.{TermsKind}
use Rattle.oeis_terms.specs.declared.error.TermsKind.TheVariants.{BadName, NoComma, BadTerm}
use Rattle.oeis_terms.specs.Cut.{pieces, ends_with, trimmed}
use Rattle.text_parts.specs.Results.{◌>>=◌}
use Rattle.oeis_terms.specs.Items.{items_from}
use Rattle.text_parts.specs.Digits.{number_spelled}
use Rattle.oeis_terms.specs.Numbers.{integer_of}
use Rattle.oeis_terms.specs.Table.{Row}

-- the name that was read, and the bytes after it
abbrev pub named : Option ℕ → List ℕ → Result (ℕ × List ℕ) TermsKind
named None rest = Err BadName
named (Some name) rest = Ok (name, rest)

-- an A-number in the first seven bytes, and the bytes after it
abbrev pub name_at : List ℕ → Result (ℕ × List ℕ) TermsKind
name_at line = named (name_read (take 7 line)) (drop 7 line)

-- the term that stands in this column
abbrev pub term_at : ℕ → Option ℤ → Result ℤ TermsKind
term_at column None = Err (BadTerm column)
term_at column (Some z) = Ok z

-- the integers that are each followed by a comma, the first of which stands in this column
abbrev pub integers_from : ℕ → List ℕ → Result (List ℤ) TermsKind
integers_from column line = items_from (λ at piece. term_at at (integer_of piece)) (λ at piece. at + (length piece + 1)) column (pieces 44 line).ended

-- the terms before the first one past the number range
abbrev pub usable : List ℤ → List ℤ
usable terms = take_while is_number terms

-- the usable ones of the terms that are each followed by a comma, the first of which stands in column 10
abbrev pub usable_terms : List ℕ → Result (List ℤ) TermsKind
usable_terms line = integers_from 10 line >>= λ terms. Ok (usable terms)

-- nothing, or bytes of which the last is a comma
abbrev pub is_ended : List ℕ → Bool
is_ended line = length line == 0 || ends_with 44 line

-- a space, a comma, and terms that are each followed by a comma
abbrev pub terms_read : List ℕ → Result (List ℤ) TermsKind
terms_read [] = Err NoComma
terms_read (b ∷ []) = Err NoComma
terms_read (b ∷ c ∷ rest) = if b == 32 && c == 44 then (if is_ended rest then usable_terms rest else Err NoComma) else Err NoComma

-- a name and its usable terms
unfoldable pub row_at : List ℕ → Result Row TermsKind
row_at line = do
  named ← name_at line
  terms ← terms_read named.1
  Ok (named.0, terms)

-- an empty line, or a comment, which begins with `#`
abbrev pub is_silent : List ℕ → Bool
is_silent line = length line == 0 || slice_index line 0 == 35

-- what a line says: a row, or nothing
abbrev pub said : List ℕ → Result (Option Row) TermsKind
said line = if is_silent (trimmed line) then Ok None else (row_at (trimmed line) >>= λ row. Ok (Some row))
