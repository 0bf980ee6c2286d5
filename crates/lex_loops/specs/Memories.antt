-- The memory that a machine's cells and its undo log stand for.
use Rattle.std.specs.Prelude.{ℕ, ◌<◌, ◌≤◌, ◌≡◌, ℤ, pos, List, [], ◌∷◌, ◌++◌, get_or, drop, length, All}
use Rattle.std.specs.declared.option.Option.{Option}
use Rattle.std.specs.declared.option.Option.TheVariants.{Some, None}
use Rattle.loda_semantics.specs.declared.kinds.FaultKind.{FaultKind}
use Rattle.loda_semantics.specs.Memory.{Memory, set_cell}
use Rattle.loda_semantics.specs.Exec.{none, Ending, done, failed}
use Rattle.lex_loops.specs.declared.cells.Written.{Written}

-- cells from 0 on; those past the last one were never written
abbrev pub memory_of : List ℤ → Memory
memory_of cells a = get_or cells a (pos 0)

-- the memory before some writes, from what each of them replaced, the oldest first
abbrev pub before : List Written → Memory → Memory
before [] m = m
before (w ∷ ws) m = set_cell (before ws m) w.address w.value

-- a write at a cell that held this value
abbrev pub written : ℕ → ℤ → Written
written a v = record { address = a; value = v }

-- each write of a log was to one of the first n cells
abbrev pub IsWithin : ℕ → List Written → Type 0
IsWithin n log = All (λ w. w.address < n) log

-- Undoing the writes of the new log down to this length, or a lesser one, gives what undoing those of the old one gives.
pub record Shortens (len : ℕ) (old new : List Written) : Type 0 where
  pub long : len ≤ length new
  pub same : (k : ℕ) (m : Memory) → k ≤ len → before (drop k new) m ≡ before (drop k old) m

-- The log has grown by writes, and undoing them gives the old memory back.
pub record Replaces (old_log : List Written) (old : Memory) (new_log : List Written) (new : Memory) : Type 0 where
  pub writes : List Written
  pub log : new_log ≡ old_log ++ writes
  pub memory : before writes new ≡ old

-- how an instruction ends that fails, or not
abbrev pub ending_of : Option FaultKind → Memory → ℕ → Ending
ending_of None m n = done m n none
ending_of (Some k) m n = failed k n none
