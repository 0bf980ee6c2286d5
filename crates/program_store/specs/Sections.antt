-- A file cut into lines, and its lines into sections.
use Rattle.std.specs.Prelude.{ℕ, ◌+◌, List, [], ◌∷◌, map, length, take, slice_index, ◌-◌, ◌==◌, if◌then◌else◌, Bool, true, false, not}
use Rattle.std.specs.List.{concat}
use Rattle.text_parts.specs.Blanks.{without_return}

-- the lines with one more byte in front
abbrev pub line_with_byte : ℕ → List (List ℕ) → List (List ℕ)
line_with_byte b [] = (b ∷ []) ∷ []
line_with_byte b (line ∷ lines) = (b ∷ line) ∷ lines

-- the lines of a file, each with the LF that ends it; behind the last LF there is a line only where there are bytes
unfoldable pub whole_lines : List ℕ → List (List ℕ)
whole_lines [] = []
whole_lines (b ∷ bs) = if b == 10 then (b ∷ []) ∷ whole_lines bs else line_with_byte b (whole_lines bs)

-- a line without the LF that ends it
unfoldable pub without_feed : List ℕ → List ℕ
without_feed line = if slice_index line (length line - 1) == 10 then take (length line - 1) line else line

-- a line without its LF and without one CR before it
abbrev pub bare : List ℕ → List ℕ
bare line = without_return (without_feed line)

-- a line of a file and its number, which is counted from 1
pub record Line : Type 0 where
  pub number : ℕ
  pub bytes : List ℕ

-- lines of which the first has this number
unfoldable pub numbered : ℕ → List (List ℕ) → List Line
numbered n [] = []
numbered n (line ∷ lines) = record { number = n; bytes = line } ∷ numbered (n + 1) lines

-- a header with its line's number, and the text of the lines behind it, up to the next header or the end
pub record Section : Type 0 where
  pub line : ℕ
  pub header : List ℕ
  pub text : List ℕ

-- the lines before the first header, and the sections
pub record Cut : Type 0 where
  pub before : List Line
  pub sections : List Section

-- the bytes of lines, one after the other
abbrev pub bytes_of_lines : List Line → List ℕ
bytes_of_lines lines = concat (map (λ (line : Line). line.bytes) lines)

-- a header with the text of these lines
abbrev pub section_of : Line → List Line → Section
section_of header lines = record { line = header.number; header = header.bytes; text = bytes_of_lines lines }

-- what is cut behind a line, with that line: it is a header, or it stands before the next one
abbrev pub add_line : Bool → Line → Cut → Cut
add_line true line cut = record { before = []; sections = section_of line cut.before ∷ cut.sections }
add_line false line cut = record { before = line ∷ cut.before; sections = cut.sections }

-- whether the bytes begin with the sign
abbrev pub begins_with : ℕ → List ℕ → Bool
begins_with sign [] = false
begins_with sign (b ∷ bs) = b == sign

-- whether the bytes begin with a line that isn't a header
abbrev pub is_inner : ℕ → List ℕ → Bool
is_inner sign [] = false
is_inner sign (b ∷ bs) = not (b == sign)

-- lines cut at the headers, which are the lines whose first byte is the sign
unfoldable pub cut_lines : ℕ → List Line → Cut
cut_lines sign [] = record { before = []; sections = [] }
cut_lines sign (line ∷ lines) = add_line (begins_with sign line.bytes) line (cut_lines sign lines)

-- a file, or the rest of one whose first line has this number
unfoldable pub cut_from : ℕ → ℕ → List ℕ → Cut
cut_from sign n bytes = cut_lines sign (numbered n (whole_lines bytes))
