-- What cells hold, and when a region fell.
use Rattle.std.specs.Prelude.{ℕ, zero, suc, ◌+◌, ◌==◌, nat_lt, ℤ, pos, negsuc, Bool, false, ◌&&◌, ◌||◌, not, if◌then◌else◌, int_lt}
use Rattle.std.specs.declared.option.Option.{Option}
use Rattle.std.specs.declared.option.Option.TheVariants.{Some, None}
use Rattle.std.specs.Option.{option_map}
use Rattle.loda_syntax.specs.declared.instr.Operand.{Operand}
use Rattle.loda_syntax.specs.declared.instr.Operand.TheVariants.{Constant, Direct, Indirect}
use Rattle.loda_syntax.specs.declared.instr.TheConstants.{MEMORY_CELLS}

-- what each cell holds
abbrev pub Memory : Type 0
Memory = ℕ → ℤ

-- x in cell 0, and 0 elsewhere
abbrev pub memory_with : ℤ → Memory
memory_with x c = if c == 0 then x else pos 0

-- v in cell a
abbrev pub set_cell : Memory → ℕ → ℤ → Memory
set_cell m a v c = if c == a then v else m c

-- 0 in `count` cells from `start` on
abbrev pub clear_cells : Memory → ℕ → ℕ → Memory
clear_cells m start count c = if not (nat_lt c start) && nat_lt c (start + count) then pos 0 else m c

-- the cell whose address a number is; none outside of 0 to 4095
abbrev pub cell_at : ℤ → Option ℕ
cell_at (pos a) = if nat_lt a MEMORY_CELLS then Some a else None
cell_at (negsuc a) = None

-- the cell that an operand names; none for a constant, and where an indirect one leads outside
abbrev pub address : Memory → Operand → Option ℕ
address m (Constant v) = None
address m (Direct c) = Some c
address m (Indirect c) = cell_at (m c)

-- what a source holds; none where an indirect one leads outside
abbrev pub source_value : Memory → Operand → Option ℤ
source_value m (Constant v) = Some v
source_value m (Direct c) = Some (m c)
source_value m (Indirect c) = option_map m (cell_at (m c))

-- the n new cells from c on are less than the old ones: at some place they are less, the cells before it are equal,
-- and none up to there is negative
abbrev pub is_less : ℕ → ℕ → Memory → Memory → Bool
is_less zero c new old = false
is_less (suc n) c new old = not (int_lt (new c) (pos 0)) && (int_lt (new c) (old c) || (not (int_lt (old c) (new c)) && is_less n (suc c) new old))
