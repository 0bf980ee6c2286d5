-- The cuts of a program: each takes out one instruction that neither begins nor ends a loop, or one loop whole.
use Rattle.std.specs.Prelude.{ℕ, zero, suc, List, [], ◌∷◌, ◌++◌, length, take, drop}
use Rattle.std.specs.declared.option.Option.{Option}
use Rattle.std.specs.declared.option.Option.TheVariants.{Some, None}
use Rattle.std.specs.Option.{option_map}
use Rattle.std.specs.List.{filter_map, range_with_len}
use Rattle.loda_syntax.specs.declared.instr.Instr.{Instr}
use Rattle.loda_syntax.specs.declared.instr.Instr.TheVariants.{Arith, Clear, LoopStart, LoopEnd, Call}
use Rattle.loda_syntax.specs.Programs.{Text}

-- what follows the end of a loop, of what follows its beginning, where so many more loops are open within it
abbrev pub behind_loop : ℕ → List Instr → List Instr
behind_loop depth [] = []
behind_loop depth (LoopStart c n ∷ is) = behind_loop (suc depth) is
behind_loop zero (LoopEnd ∷ is) = is
behind_loop (suc depth) (LoopEnd ∷ is) = behind_loop depth is
behind_loop depth (Arith v t s ∷ is) = behind_loop depth is
behind_loop depth (Clear c n ∷ is) = behind_loop depth is
behind_loop depth (Call t q ∷ is) = behind_loop depth is

-- what follows the instruction, or the loop whole, that the list begins with; none where it begins with the end of a loop
abbrev pub rest_behind : List Instr → Option (List Instr)
rest_behind [] = None
rest_behind (LoopStart c n ∷ is) = Some (behind_loop 0 is)
rest_behind (LoopEnd ∷ is) = None
rest_behind (Arith v t s ∷ is) = Some is
rest_behind (Clear c n ∷ is) = Some is
rest_behind (Call t q ∷ is) = Some is

-- the program without what begins at a place
abbrev pub cut_at : Text → ℕ → Option Text
cut_at p place = option_map (λ rest. take place p ++ rest) (rest_behind (drop place p))

-- the programs that its cuts leave, in the order of the places at which these begin
abbrev pub cuts : Text → List Text
cuts p = filter_map (cut_at p) (range_with_len 0 (length p))
