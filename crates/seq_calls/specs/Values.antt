-- What a name comes to at an argument, and which value a change of programs leaves it.
use Rattle.std.specs.Prelude.{ℕ, ◌≤◌, ◌==◌, Bool, false, IsTrue, ℤ, pos, negsuc}
use Rattle.loda_semantics.specs.Exec.{Outcome, value, fault, out, Library, run_name}
use Rattle.seq_calls.specs.Frames.{steps_of}

-- what the program of a name comes to at an argument, within a limit of steps
abbrev pub outcome : Library → ℕ → ℤ → ℕ → Outcome
outcome lib q x limit = (run_name lib q x limit).0

-- whether two integers are the same
abbrev pub same_int : ℤ → ℤ → Bool
same_int (pos a) (pos b) = a == b
same_int (negsuc a) (negsuc b) = a == b
same_int (pos a) (negsuc b) = false
same_int (negsuc a) (pos b) = false

-- whether the outcome is that value, whatever its steps
abbrev pub gives : Outcome → ℤ → Bool
gives (value w n) v = same_int w v
gives (fault k n) v = false
gives (out n) v = false

-- the outcome is that value
abbrev pub Gives : Outcome → ℤ → Type 0
Gives o v = IsTrue (gives o v)

-- the name has a value at the argument in both libraries, the same one, and takes no more steps for it in the new one
pub record KeepsValue (old new : Library) (limit : ℕ) (p : ℕ) (x : ℤ) : Type 0 where
  pub value : ℤ
  pub was : Gives (outcome old p x limit) value
  pub now : Gives (outcome new p x limit) value
  pub no_dearer : steps_of (outcome new p x limit) ≤ steps_of (outcome old p x limit)
