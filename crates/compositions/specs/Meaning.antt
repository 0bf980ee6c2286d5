-- What composed programs mean.
use Rattle.std.specs.Prelude.{ℕ, zero, suc, ◌+◌, ◌≤◌, ◌≡◌, ℤ, pos, ◌+ℤ◌, ◌-ℤ◌, ◌*ℤ◌, length, ◌++◌, IsTrue}
use Rattle.checked_numbers.specs.Numbers.{IsNumber}
use Rattle.loda_syntax.specs.Programs.{Text, instrs}
use Rattle.loda_syntax.specs.WellFormed.{IsProgram, IsBalanced}
use Rattle.loda_syntax.specs.Trees.{tree_of}
use Rattle.loda_semantics.specs.Memory.{Memory}
use Rattle.loda_semantics.specs.Exec.{value, Calls, join, and_then, Callee, exec, Library, run_text}
use Rattle.compositions.specs.Cells.{by, is_direct, top}
use Rattle.compositions.specs.Places.{moved_into, ending_in}
use Rattle.compositions.specs.Composed.{linear, linear_end, difference, sum}

-- with n steps the text comes to the value w at x, in `used` of them and by these calls
abbrev pub RunsTo : Library → Text → ℤ → ℕ → ℤ → ℕ → Calls → Type 0
RunsTo lib p x n w used c = run_text lib p x n ≡ (value w used, c)

-- with n steps the text has the value w at x
abbrev pub GivesValue : Library → Text → ℤ → ℕ → ℤ → Type 0
GivesValue lib p x n w = (used : ℕ) × (c : Calls) × RunsTo lib p x n w used c

-- Where q has a value at x, p has a value there, and q's is a times that and b. Where p has a value, q has it so, if the product and the sum are
-- numbers and there are the steps of p and one for each instruction behind p.
pub record IsLinear (p q : Text) (a b : ℤ) : Type 0 where
  pub from : (lib : Library) (x : ℤ) (n : ℕ) (v : ℤ) (used : ℕ) (c : Calls) → RunsTo lib q x n v used c
      → (w : ℤ) × (before : ℕ) × RunsTo lib p x n w before c × (v ≡ a *ℤ w +ℤ b) × (used ≡ before + length (linear_end a b))
  pub to : (lib : Library) (x : ℤ) (n n' : ℕ) (w : ℤ) (used : ℕ) (c : Calls) → RunsTo lib p x n w used c → IsNumber (a *ℤ w) → IsNumber (a *ℤ w +ℤ b)
      → used + length (linear_end a b) ≤ n' → RunsTo lib q x n' (a *ℤ w +ℤ b) (used + length (linear_end a b)) c

-- Where q has a value at x, p has values there and at x + 1, and q's is their difference. Where p has these values, q has it so, if x, x + 1 and
-- the difference are numbers and there are the steps of both and three more.
pub record IsDifference (p q : Text) : Type 0 where
  pub from : (lib : Library) (x : ℤ) (n : ℕ) (v : ℤ) (used : ℕ) (c : Calls) → RunsTo lib q x n v used c
      → (w0 w1 : ℤ) × (u0 u1 : ℕ) × (c0 c1 : Calls) × RunsTo lib p x n w0 u0 c0 × RunsTo lib p (x +ℤ pos 1) n w1 u1 c1
      × (v ≡ w1 -ℤ w0) × (used ≡ u1 + u0 + 3) × (c ≡ join c1 c0)
  pub to : (lib : Library) (x : ℤ) (n n' : ℕ) (w0 w1 : ℤ) (u0 u1 : ℕ) (c0 c1 : Calls) → RunsTo lib p x n w0 u0 c0 → RunsTo lib p (x +ℤ pos 1) n w1 u1 c1
      → IsNumber x → IsNumber (x +ℤ pos 1) → IsNumber (w1 -ℤ w0) → u1 + u0 + 3 ≤ n' → RunsTo lib q x n' (w1 -ℤ w0) (u1 + u0 + 3) (join c1 c0)

-- the sum of the values at 0 to n
abbrev pub sum_up : (ℕ → ℤ) → ℕ → ℤ
sum_up w zero = w 0
sum_up w (suc n) = sum_up w n +ℤ w (suc n)

-- Where q has a value at x, which is 0 or more, p has values at 0 to x, and q's is their sum.
pub record IsSum (p q : Text) : Type 0 where
  pub from : (lib : Library) (x n : ℕ) (v : ℤ) → GivesValue lib q (pos x) n v → (w : ℕ → ℤ) × ((k : ℕ) → k ≤ x → GivesValue lib p (pos k) n (w k)) × (v ≡ sum_up w x)

-- Each program and then its linear end is a times the program's value, and b.
abbrev pub LinearMeans : Type 0
LinearMeans = (p : Text) (a b : ℤ) → IsProgram (instrs p) → IsLinear p (linear p a b) a b

-- The program of differences of each program without indirect cells is its next value less its value.
abbrev pub DifferenceMeans : Type 0
DifferenceMeans = (p : Text) → IsProgram (instrs p) → IsTrue (is_direct p) → IsDifference p (difference p)

-- The program of sums of each program without indirect cells is the sum of its values.
abbrev pub SumMeans : Type 0
SumMeans = (p : Text) → IsProgram (instrs p) → IsTrue (is_direct p) → IsSum p (sum p)

-- A program without indirect cells does in the cells from d on what it does in its own: from a memory that holds m there, the ending is the same,
-- with the same steps left and the same calls, and where it is done, the new memory holds there what the new own one holds, and elsewhere what it held.
abbrev pub ProgramsMove : Type 0
ProgramsMove = (callee : Callee) (p : Text) (d : ℕ) (base m : Memory) (n : ℕ) → IsTrue (is_direct p)
    → exec callee (tree_of (by d p)) (moved_into d (top p) base m) n ≡ ending_in (moved_into d (top p) base) (exec callee (tree_of (instrs p)) m n)

-- A balanced text and then another one run one after the other.
abbrev pub TextsFollow : Type 0
TextsFollow = (callee : Callee) (p q : Text) (m : Memory) (n : ℕ) → IsBalanced zero (instrs p)
    → exec callee (tree_of (p ++ q)) m n ≡ and_then (exec callee (tree_of p) m n) (exec callee (tree_of q))
