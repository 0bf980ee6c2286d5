-- Blanks at the ends of a text, and the carriage return at a line's end.
use Rattle.std.specs.Prelude.{ℕ, List, [], ◌∷◌, reverse, length, take, slice_index, ◌-◌, ◌==◌, ◌||◌, if◌then◌else◌, Bool}

-- a space or a tab
abbrev pub is_blank : ℕ → Bool
is_blank b = b == 32 || b == 9

-- without the blanks at its front
abbrev pub trim_front : List ℕ → List ℕ
trim_front [] = []
trim_front (b ∷ bs) = if is_blank b then trim_front bs else b ∷ bs

-- without the blanks at its end
abbrev pub trim_back : List ℕ → List ℕ
trim_back text = reverse (trim_front (reverse text))

-- without the blanks at both ends
unfoldable pub trim : List ℕ → List ℕ
trim text = trim_back (trim_front text)

-- without one CR at its end
unfoldable pub without_return : List ℕ → List ℕ
without_return line = if slice_index line (length line - 1) == 13 then take (length line - 1) line else line
