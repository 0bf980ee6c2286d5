-- Bytes cut after each byte of a kind, such as lines and pieces before a comma.
use Rattle.std.specs.Prelude.{ℕ, List, [], ◌∷◌, ◌++◌, ◌-◌, ◌==◌, ◌&&◌, ◌||◌, not, Bool, length, take, slice_index, if◌then◌else◌, Option, Some, None}
use Rattle.std.specs.Option.{option_map}
use Rattle.text_parts.specs.Blanks.{trim_back, without_return}

-- the bytes before the first c, and those after it
abbrev pub first_cut : ℕ → List ℕ → Option (List ℕ × List ℕ)
first_cut c [] = None
first_cut c (b ∷ bs) = if b == c then Some ([], bs) else option_map (λ p. (b ∷ p.0, p.1)) (first_cut c bs)

-- the pieces that are each ended by c, and what stands after the last c
pub record Pieces : Type 0 where
  pub ended : List (List ℕ)
  pub rest : List ℕ

-- the pieces with one more byte in front
abbrev pub with_byte : ℕ → List (List ℕ) → List ℕ → Pieces
with_byte b [] rest = record { ended = []; rest = b ∷ rest }
with_byte b (p ∷ ps) rest = record { ended = (b ∷ p) ∷ ps; rest = rest }

-- the pieces of bytes, each ended by c but for what stands last
unfoldable pub pieces : ℕ → List ℕ → Pieces
pieces c [] = record { ended = []; rest = [] }
pieces c (b ∷ bs) = if b == c then record { ended = [] ∷ (pieces c bs).ended; rest = (pieces c bs).rest } else with_byte b (pieces c bs).ended (pieces c bs).rest

-- the lines of a text: those that are ended by a line feed, and what stands after the last one
unfoldable pub lines : List ℕ → List (List ℕ)
lines text = (pieces 10 text).ended ++ (pieces 10 text).rest ∷ []

-- the lines of a text that may be left
abbrev pub lines_left : Option (List ℕ) → List (List ℕ)
lines_left None = []
lines_left (Some text) = lines text

-- whether c is the last byte
abbrev pub ends_with : ℕ → List ℕ → Bool
ends_with c line = not (length line == 0) && slice_index line (length line - 1) == c

-- a line without its carriage return and the blanks at its end
abbrev pub trimmed : List ℕ → List ℕ
trimmed line = trim_back (without_return line)
