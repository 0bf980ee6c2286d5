-- What cuts and the minimum mean.
use Rattle.std.specs.Prelude.{ℕ, ◌≡◌, ◌≤◌, ◌<◌, ◌↔◌, ℤ, IsTrue, List, [], ◌∷◌, ◌++◌, length, Contains}
use Rattle.std.specs.declared.option.Option.TheVariants.{Some}
use Rattle.loda_syntax.specs.declared.instr.Instr.{Instr}
use Rattle.loda_syntax.specs.declared.instr.Instr.TheVariants.{Arith, Clear, LoopStart, LoopEnd, Call}
use Rattle.loda_syntax.specs.Programs.{Text}
use Rattle.loda_syntax.specs.WellFormed.{IsProgram, IsBalanced}
use Rattle.loda_semantics.specs.Exec.{value, Library, run_text}
use Rattle.minimiser.specs.Cuts.{cut_at}
use Rattle.minimiser.specs.Minimum.{is_good, minimum}

-- one instruction that neither begins nor ends a loop, or one loop whole
abbrev pub IsPart : List Instr → Type 0
IsPart [] = ⊥
IsPart (LoopStart c n ∷ is) = (body : List Instr) × (is ≡ body ++ LoopEnd ∷ []) × IsBalanced 0 body
IsPart (LoopEnd ∷ is) = ⊥
IsPart (Arith v t s ∷ is) = is ≡ []
IsPart (Clear c n ∷ is) = is ≡ []
IsPart (Call t q ∷ is) = is ≡ []

-- the second program is the first one without such a part, which begins at the place
pub record IsCut (p : Text) (place : ℕ) (q : Text) : Type 0 where
  pub front : List Instr
  pub part : List Instr
  pub rest : List Instr
  pub whole : p ≡ front ++ (part ++ rest)
  pub begins : place ≡ length front
  pub is_part : IsPart part
  pub left : q ≡ front ++ rest

-- What is left at a place is just what a cut leaves there.
abbrev pub CutsTakeParts : Type 0
CutsTakeParts = (p : Text) (place : ℕ) (q : Text) → IsProgram p → (cut_at p place ≡ Some q) ↔ IsCut p place q

-- no cut of the program is good
abbrev pub HasNoGoodCut : Library → List ℤ → ℕ → Text → Type 0
HasNoGoodCut lib args limit p = (place : ℕ) (q : Text) → IsCut p place q → IsTrue (is_good lib args limit p q) → ⊥

-- the second program is left by the first good cut of the first one: none that begins before it is good
pub record IsFirstGoodCut (lib : Library) (args : List ℤ) (limit : ℕ) (p q : Text) : Type 0 where
  pub place : ℕ
  pub cut : IsCut p place q
  pub good : IsTrue (is_good lib args limit p q)
  pub first : (earlier : ℕ) (r : Text) → earlier < place → IsCut p earlier r → IsTrue (is_good lib args limit p r) → ⊥

-- The minimum is the program itself where no cut of it is good, and else the minimum of what its first good cut leaves.
pub record MinimumUnfolds (lib : Library) (args : List ℤ) (limit : ℕ) (p : Text) : Type 0 where
  pub done : HasNoGoodCut lib args limit p → minimum lib args limit p ≡ p
  pub more : (q : Text) → IsFirstGoodCut lib args limit p q → minimum lib args limit p ≡ minimum lib args limit q

-- wherever the first program has a value at one of the arguments, the second one has it too, in no more steps
abbrev pub KeepsValues : Library → List ℤ → ℕ → Text → Text → Type 0
KeepsValues lib args limit p q =
    (x v : ℤ) (used : ℕ) → Contains args x → (run_text lib p x limit).0 ≡ value v used
    → (fewer : ℕ) × ((run_text lib q x limit).0 ≡ value v fewer) × (fewer ≤ used)
