-- Calls in the texts of programs, reach, and cycles.
use Rattle.std.specs.Prelude.{ℕ, zero, suc, ◌≡◌, List, [], ◌∷◌, ◌++◌, Contains}
use Rattle.std.specs.declared.option.Option.TheVariants.{Some}
use Rattle.loda_syntax.specs.declared.instr.Instr.{Instr}
use Rattle.loda_syntax.specs.declared.instr.Instr.TheVariants.{Arith, Clear, LoopStart, LoopEnd, Call}
use Rattle.loda_syntax.specs.Programs.{Text, instrs}
use Rattle.loda_semantics.specs.Exec.{Library}

-- the names that instructions call, in order
abbrev pub called_by : List Instr → List ℕ
called_by [] = []
called_by (Call t q ∷ is) = q ∷ called_by is
called_by (Arith v t s ∷ is) = called_by is
called_by (Clear c n ∷ is) = called_by is
called_by (LoopStart c n ∷ is) = called_by is
called_by (LoopEnd ∷ is) = called_by is

-- the names that a program's text calls, in order
abbrev pub calls_of : Text → List ℕ
calls_of p = called_by (instrs p)

-- a path of n calls in the texts, from one name to another
abbrev pub Path : Library → ℕ → ℕ → ℕ → Type 0
Path lib zero from to = from ≡ to
Path lib (suc n) from to = (p : Text) × (lib from ≡ Some p) × (next : ℕ) × Contains (calls_of p) next × Path lib n next to

-- some path of calls leads from one name to another; a name reaches itself
abbrev pub Reaches : Library → ℕ → ℕ → Type 0
Reaches lib from to = (n : ℕ) × Path lib n from to

-- some call of the text reaches the name
abbrev pub CallsReach : Library → Text → ℕ → Type 0
CallsReach lib p to = (next : ℕ) × Contains (calls_of p) next × Reaches lib next to

-- the name has a program, and some call of it reaches the name
abbrev pub OnCycle : Library → ℕ → Type 0
OnCycle lib q = (p : Text) × (lib q ≡ Some p) × CallsReach lib p q

-- no name is on a cycle of calls
abbrev pub NoCycle : Library → Type 0
NoCycle lib = (q : ℕ) → OnCycle lib q → ⊥

-- x is the first on the list with the property
abbrev pub FirstWith : (ℕ → Type 0) → List ℕ → ℕ → Type 0
FirstWith P xs x = (before : List ℕ) × (after : List ℕ) × (xs ≡ before ++ x ∷ after) × P x × ((y : ℕ) → Contains before y → P y → ⊥)
