-- Which rows match nine values.
use Rattle.std.specs.Prelude.{ℤ, pos, ◌+ℤ◌, ◌-ℤ◌, List, [], ◌∷◌, ◌++◌, map, take, Option, Some, None, if◌then◌else◌}
use Rattle.std.specs.Ordering.{int_eq}
use Rattle.std.specs.Cmp.Lexicographic.{pointwise}
use Rattle.std.specs.List.{filter_map}
use Rattle.std.specs.Option.{option_map}
use Rattle.oeis_terms.specs.Table.{Row, Table}
use Rattle.term_index.specs.Lines.{line_of}
use Rattle.term_index.specs.declared.form.Form.{Form}
use Rattle.term_index.specs.declared.form.Form.TheVariants.{Direct, Difference, Sum, Linear}
use Rattle.term_index.specs.declared.form.Match.{Match}

-- each number less the one before it, which is x for the first
abbrev pub differences_from : ℤ → List ℤ → List ℤ
differences_from x [] = []
differences_from x (y ∷ ys) = (y -ℤ x) ∷ differences_from y ys

-- each number but the first less the one before it
abbrev pub differences : List ℤ → List ℤ
differences [] = []
differences (x ∷ xs) = differences_from x xs

-- the sums of s and the numbers up to each
abbrev pub sums_from : ℤ → List ℤ → List ℤ
sums_from s [] = []
sums_from s (x ∷ xs) = (s +ℤ x) ∷ sums_from (s +ℤ x) xs

-- a row with its first eight terms
abbrev pub shortened : Row → Row
shortened row = (row.0, take 8 row.1)

-- the match of a row in a form
abbrev pub matching : Form → Row → Match
matching form row = record { name = row.0; form = form }

-- the match of a row of these terms
abbrev pub equal_match : Form → List ℤ → Row → Option Match
equal_match form wanted row = if pointwise int_eq row.1 wanted then Some (matching form row) else None

-- the match of a row whose terms are a times these values and b
abbrev pub linear_match : List ℤ → Row → Option Match
linear_match values row = option_map (λ (l : ℤ × ℤ). matching (Linear l.0 l.1) row) (line_of values row.1)

-- All matches, by form and then in the order of the rows, which is that of their names.
abbrev pub all_matches : List ℤ → List Row → List Match
all_matches values rows =
    filter_map (equal_match Direct (take 8 values)) rows
    ++ (filter_map (equal_match Difference (differences values)) rows
    ++ (filter_map (equal_match Sum (sums_from (pos 0) (take 8 values))) rows
    ++ filter_map (linear_match (take 8 values)) rows))

-- the first 16 matches of nine values with the first eight terms of the rows
abbrev pub matches_of : List ℤ → Table → List Match
matches_of values table = take 16 (all_matches values (map shortened table.rows))
