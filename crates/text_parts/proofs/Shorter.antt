-- How long a text is without its blanks and its carriage return.
use Rattle.std.proofs.Common.{ℕ, ◌-◌, ◌≤◌, Bool, true, false, cond, eqb, List, [], ◌∷◌, length, take, reverse, arith}
use Rattle.std.specs.Prelude.{slice_index}
use Rattle.std.proofs.lemmas.List.{length-take, length-reverse}
use Rattle.text_parts.specs.Blanks.{is_blank, trim_front, trim_back, without_return}

front-length : (text : List ℕ) → length (trim_front text) ≤ length text
front-length [] = omega arith
front-length (b ∷ bs) = in_case (is_blank b) (front-length bs)
  where
    in_case : (blank : Bool) → length (trim_front bs) ≤ length bs → length (cond blank (trim_front bs) (b ∷ bs)) ≤ length (b ∷ bs)
    in_case true le = omega (arith, le)
    in_case false le = omega arith

pub back-length : (text : List ℕ) → length (trim_back text) ≤ length text
back-length text = omega (arith, length-reverse (trim_front (reverse text)), front-length (reverse text), length-reverse text)

pub return-length : (line : List ℕ) → length (without_return line) ≤ length line
unfolding without_return
return-length line = in_case (eqb (slice_index line (length line - 1)) 13)
  where
    in_case : (b : Bool) → length (cond b (take (length line - 1) line) line) ≤ length line
    in_case true = omega (arith, length-take (length line - 1) line)
    in_case false = omega arith
