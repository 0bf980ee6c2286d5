-- A program's text as a section of a file, in which a line that begins with `=` or `?` is a header.
use Rattle.std.specs.Prelude.{◌≡◌, ◌≢◌, ◌⊎◌, ℕ, List, [], ◌∷◌, ◌++◌, slice_index}
use Rattle.loda_syntax.specs.Lines.{text_lines}

-- the line begins with neither sign
abbrev pub IsNoHeader : List ℕ → Type 0
IsNoHeader line = (slice_index line 0 ≢ 61) × (slice_index line 0 ≢ 63)

-- none of the lines begins with one of the signs
abbrev pub NoHeaders : List (List ℕ) → Type 0
NoHeaders [] = Unit {0}
NoHeaders (line ∷ text_lines) = IsNoHeader line × NoHeaders text_lines

-- the text ends with LF
pub record EndsLine (text : List ℕ) : Type 0 where
  pub front : List ℕ
  pub whole : text ≡ front ++ 10 ∷ []

-- no line of the text is a header, and what follows the text begins a line
pub record IsSection (text : List ℕ) : Type 0 where
  pub each : NoHeaders (text_lines text)
  pub ends : (text ≡ []) ⊎ EndsLine text
