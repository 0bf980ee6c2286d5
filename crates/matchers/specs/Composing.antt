-- Which program a form makes of a program, and what it means.
use Rattle.std.specs.Prelude.{◌≡◌, ◌&&◌, nat_le, nat_lt, length, Option, Some, None, Bool, true, if◌then◌else◌}
use Rattle.loda_syntax.specs.Programs.{Text}
use Rattle.compositions.specs.Cells.{is_direct, top}
use Rattle.compositions.specs.Composed.{linear, difference, sum}
use Rattle.compositions.specs.Meaning.{IsLinear, IsDifference, IsSum}
use Rattle.term_index.specs.declared.form.Form.{Form}
use Rattle.term_index.specs.declared.form.Form.TheVariants.{Direct, Difference, Sum, Linear}
use Rattle.loda_syntax.specs.declared.instr.TheConstants.{MEMORY_CELLS, MOST_INSTRS}

-- the text that a form makes of a program
abbrev pub form_text : Form → Text → Text
form_text Direct p = p
form_text Difference p = difference p
form_text Sum p = sum p
form_text (Linear a b) p = linear p a b

-- Difference and Sum are for programs without indirect cells
abbrev pub is_for : Form → Text → Bool
is_for Direct p = true
is_for Difference p = is_direct p
is_for Sum p = is_direct p
is_for (Linear a b) p = true

-- at most 1,000 instructions, and no cell past 4095
abbrev pub is_small : Text → Bool
is_small q = nat_le (length q) MOST_INSTRS && nat_lt (top q) MEMORY_CELLS

-- the text, where it is that small
abbrev pub if_small : Text → Option Text
if_small q = if is_small q then Some q else None

-- the composed program, where there is one
abbrev pub composed : Form → Text → Option Text
composed form p = if is_for form p then if_small (form_text form p) else None

-- what the composed program means
abbrev pub Means : Form → Text → Text → Type 0
Means Direct p q = q ≡ p
Means Difference p q = IsDifference p q
Means Sum p q = IsSum p q
Means (Linear a b) p q = IsLinear p q a b
