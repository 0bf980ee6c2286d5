-- A program as a tree: a list of single instructions and loops, each loop with its region and its own tree.
use Rattle.std.specs.Prelude.{◌≡◌, ℕ, List, [], ◌∷◌, ◌++◌}
use Rattle.loda_syntax.specs.declared.instr.Instr.{Instr}
use Rattle.loda_syntax.specs.declared.instr.Instr.TheVariants.{Arith, Clear, LoopStart, LoopEnd, Call}

-- nothing more; an instruction and the rest; or a loop's first cell and region's length, its body, and the rest
pub data Tree : Type 0 where
  end : Tree
  step : Instr → Tree → Tree
  loop : ℕ → ℕ → Tree → Tree → Tree

-- the first of them, and an end where there is none
abbrev pub first_tree : List Tree → Tree
first_tree [] = end
first_tree (t ∷ ts) = t

-- those behind the first
abbrev pub rest_of : List Tree → List Tree
rest_of [] = []
rest_of (t ∷ ts) = ts

-- What is left to do from the head of a list on: the rest of this loop's body, then what follows the innermost open loop,
-- and so on outward. It is read from the right: what stands to the left of an end of a loop is that loop's body.
abbrev pub trees : List Instr → List Tree
trees [] = end ∷ []
trees (LoopStart c n ∷ is) = let ts = trees is in loop c n (first_tree ts) (first_tree (rest_of ts)) ∷ rest_of (rest_of ts)
trees (LoopEnd ∷ is) = end ∷ trees is
trees (Arith v t s ∷ is) = let ts = trees is in step (Arith v t s) (first_tree ts) ∷ rest_of ts
trees (Clear c n ∷ is) = let ts = trees is in step (Clear c n) (first_tree ts) ∷ rest_of ts
trees (Call t q ∷ is) = let ts = trees is in step (Call t q) (first_tree ts) ∷ rest_of ts

-- the tree of a list
abbrev pub tree_of : List Instr → Tree
tree_of is = first_tree (trees is)

-- A tree spelled out: a step as its instruction; a loop as its start, its body spelled out, and its end; then what follows.
abbrev pub spelled : Tree → List Instr
spelled end = []
spelled (step i rest) = i ∷ spelled rest
spelled (loop c n body rest) = LoopStart c n ∷ (spelled body ++ (LoopEnd ∷ spelled rest))

-- the list is what its tree spells out
abbrev pub IsSpelledByTree : List Instr → Type 0
IsSpelledByTree is = spelled (tree_of is) ≡ is
