-- The headers of sections, as they are written and read.
use Rattle.std.specs.Prelude.{ℕ, List, ◌++◌, length, drop, codes, ◌==◌, nat_eq, min, if◌then◌else◌, Option, Some, None, Bool}
use Rattle.std.specs.Fmt.{decimal}
use Rattle.std.specs.List.{starts_with, before_first, after_first}
use Rattle.std.specs.Option.{option_and_then, option_map}
use Rattle.text_parts.specs.Blanks.{trim_back}
use Rattle.text_parts.specs.Digits.{decimal_spelled}
use Rattle.text_parts.specs.Names.{name_text, name_read}
use Rattle.program_store.specs.Sections.{bare}
use Rattle.program_store.specs.declared.headers.TheConstants.{PAST_COUNTS}

-- ---- as they are written

-- the header of a name and a count in a store file
unfoldable pub store_header : ℕ → ℕ → List ℕ
store_header q count = codes "= " ++ name_text q ++ codes " " ++ decimal count

-- ---- as they are read

-- what stands behind this text, where it stands first
abbrev pub text_behind : List ℕ → List ℕ → Option (List ℕ)
text_behind first text = if starts_with nat_eq text first then Some (drop (length first) text) else None

-- what counts of a header's line: the blanks at its end are dropped
unfoldable pub header_content : List ℕ → List ℕ
header_content line = trim_back (bare line)

-- whether the byte is a space
abbrev pub is_space : ℕ → Bool
is_space b = b == 32

-- a name, one space and a count
unfoldable pub name_and_count : List ℕ → Option (ℕ × ℕ)
name_and_count text = option_and_then (λ name. option_map (λ count. (name, count)) (decimal_spelled (after_first is_space text))) (name_read (before_first is_space text))

-- the name and the count of a store file's header
unfoldable pub store_header_read : List ℕ → Option (ℕ × ℕ)
store_header_read line = option_and_then name_and_count (text_behind (codes "= ") (header_content line))

-- the name of a candidates file's header
unfoldable pub candidate_header_read : List ℕ → Option ℕ
candidate_header_read line = option_and_then name_read (text_behind (codes "? ") (header_content line))

-- ---- numbers up to a limit, past which they do not matter

-- a header whose count is known up to the limit
abbrev pub capped_header : Option (ℕ × ℕ) → Option (ℕ × ℕ)
capped_header header = option_map (λ h. (h.0, min h.1 PAST_COUNTS)) header
