-- A text's lines, and the parts of a line.
use Rattle.std.specs.Prelude.{ℕ, List, [], ◌∷◌, reverse, map, length, take, slice_index, ◌-◌, ◌==◌, ◌||◌, if◌then◌else◌, Bool}
use Rattle.std.specs.List.{slice_split, before_first, after_first}
use Rattle.text_parts.specs.Blanks.{is_blank, trim, without_return}

-- the lines, cut at each LF; what stands after the last LF is a line too, and it may be empty
abbrev pub text_lines : List ℕ → List (List ℕ)
text_lines text = slice_split (λ b. b == 10) text

-- what counts of a line: what stands before the comment, which begins at the first `;`, without blanks at both ends
unfoldable pub content : List ℕ → List ℕ
content line = trim (before_first (λ b. b == 59) (without_return line))

-- the word of a content, up to the first blank
abbrev pub word_of : List ℕ → List ℕ
word_of text = before_first is_blank text

-- the operands' texts, which are separated by commas
unfoldable pub cut_operands : List ℕ → List (List ℕ)
cut_operands [] = []
cut_operands (b ∷ bs) = map trim (slice_split (λ c. c == 44) (b ∷ bs))

-- the operands' texts of a content, after its word
abbrev pub operands_of : List ℕ → List (List ℕ)
operands_of text = cut_operands (trim (after_first is_blank text))
