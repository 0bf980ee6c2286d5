-- Which files are within the limits, by their lines.
use Rattle.std.specs.Prelude.{◌≡◌, ℕ, ◌+◌, ◌<◌, ◌≤◌, List, [], ◌∷◌, ◌++◌, length, All, ◌==◌}
use Rattle.std.specs.List.{slice_split}
use Rattle.loda_io.specs.declared.scan.TheConstants.{FILE_LIMIT, LINE_LIMIT}

-- the lines of a file, each without its line feed; what stands after the last line feed is a line too
abbrev pub file_lines : List ℕ → List (List ℕ)
file_lines file = slice_split (λ b. b == 10) file

-- the line has at most as many bytes as a line may have
abbrev pub IsShort : List ℕ → Type 0
IsShort line = length line ≤ LINE_LIMIT

-- each of the lines has
abbrev pub AreShort : List (List ℕ) → Type 0
AreShort lines = All IsShort lines

-- how many bytes the lines have, each with its line feed
abbrev pub size_of : List (List ℕ) → ℕ
size_of [] = 0
size_of (line ∷ lines) = length line + 1 + size_of lines

-- a file within both limits
pub record IsWhole (file : List ℕ) : Type 0 where
  pub size : length file ≤ FILE_LIMIT
  pub lines : AreShort (file_lines file)

-- the line of that number, counted from 1, is the first that is too long, and its byte past the limit is before the file's
pub record IsFirstTooLong (file : List ℕ) (number : ℕ) : Type 0 where
  pub before : List (List ℕ)
  pub text : List ℕ
  pub after : List (List ℕ)
  pub cut : file_lines file ≡ before ++ text ∷ after
  pub numbered : number ≡ length before + 1
  pub short : AreShort before
  pub long : LINE_LIMIT < length text
  pub first : size_of before + LINE_LIMIT < FILE_LIMIT

-- the file is longer than it may be, and no line is too long before that
pub record IsTooLarge (file : List ℕ) : Type 0 where
  pub size : FILE_LIMIT < length file
  pub no_line : (number : ℕ) → IsFirstTooLong file number → ⊥
