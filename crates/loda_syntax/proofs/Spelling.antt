-- A balanced list is what its tree spells out.
use Rattle.std.proofs.Common.{◌≡◌, ◌+◌, ◌≤◌, ℕ, zero, suc, List, [], ◌∷◌, ◌++◌, length, refl, sym, ap, ◌∙◌, append_assoc, arith}
use Rattle.std.proofs.lemmas.List.{append-nil}
use Rattle.loda_syntax.specs.declared.instr.Instr.{Instr}
use Rattle.loda_syntax.specs.declared.instr.Instr.TheVariants.{Arith, Clear, LoopStart, LoopEnd, Call}
use Rattle.loda_syntax.specs.WellFormed.{IsBalanced, IsProgram}
use Rattle.loda_syntax.specs.Trees.{Tree, end, step, loop, first_tree, rest_of, trees, tree_of, spelled}

-- what the trees behind an open loop's body spell out, each behind the end of a loop
behind_ends : List Tree → List Instr
behind_ends [] = []
behind_ends (t ∷ ts) = LoopEnd ∷ (spelled t ++ behind_ends ts)

-- what is left to do, spelled out
joined : List Tree → List Instr
joined ts = spelled (first_tree ts) ++ behind_ends (rest_of ts)

-- so many trees spell the list out
record SpellOut (ts : List Tree) (is : List Instr) (depth : ℕ) : Type 0 where
  list : joined ts ≡ is
  many : length ts ≡ depth + 1

start_list : (c n : ℕ) (ts : List Tree) (is : List Instr) → joined ts ≡ is → 2 ≤ length ts
    → joined (loop c n (first_tree ts) (first_tree (rest_of ts)) ∷ rest_of (rest_of ts)) ≡ LoopStart c n ∷ is
unfolding joined behind_ends
start_list c n [] is list many = absurd (omega (arith, many))
start_list c n (body ∷ []) is list many = absurd (omega (arith, many))
start_list c n (body ∷ (rest ∷ ts)) is list many =
    ap (λ (js : List Instr). LoopStart c n ∷ js) (append_assoc (spelled body) (LoopEnd ∷ spelled rest) (behind_ends ts) ∙ list)

start_many : (c n depth : ℕ) (ts : List Tree) → length ts ≡ suc depth + 1
    → length (loop c n (first_tree ts) (first_tree (rest_of ts)) ∷ rest_of (rest_of ts)) ≡ depth + 1
start_many c n depth [] many = absurd (omega (arith, many))
start_many c n depth (body ∷ []) many = absurd (omega (arith, many))
start_many c n depth (body ∷ (rest ∷ ts)) many = omega (arith, many)

out_start : (c n depth : ℕ) (ts : List Tree) (is : List Instr) → SpellOut ts is (suc depth)
    → SpellOut (loop c n (first_tree ts) (first_tree (rest_of ts)) ∷ rest_of (rest_of ts)) (LoopStart c n ∷ is) depth
out_start c n depth ts is s = record { list = start_list c n ts is s.list (omega (arith, s.many)); many = start_many c n depth ts s.many }

end_list : (depth : ℕ) (ts : List Tree) (is : List Instr) → joined ts ≡ is → length ts ≡ depth + 1 → joined (end ∷ ts) ≡ LoopEnd ∷ is
unfolding joined behind_ends
end_list depth [] is list many = absurd (omega (arith, many))
end_list depth (t ∷ ts) is list many = ap (λ (js : List Instr). LoopEnd ∷ js) list

out_end : (depth : ℕ) (ts : List Tree) (is : List Instr) → SpellOut ts is depth → SpellOut (end ∷ ts) (LoopEnd ∷ is) (suc depth)
out_end depth ts is s = record { list = end_list depth ts is s.list s.many; many = omega (arith, s.many) }

step_many : (i : Instr) (depth : ℕ) (ts : List Tree) → length ts ≡ depth + 1 → length (step i (first_tree ts) ∷ rest_of ts) ≡ depth + 1
step_many i depth [] many = absurd (omega (arith, many))
step_many i depth (t ∷ ts) many = omega (arith, many)

out_step : (i : Instr) (depth : ℕ) (ts : List Tree) (is : List Instr) → SpellOut ts is depth
    → SpellOut (step i (first_tree ts) ∷ rest_of ts) (i ∷ is) depth
unfolding joined behind_ends
out_step i depth ts is s = record { list = ap (λ (js : List Instr). i ∷ js) s.list; many = step_many i depth ts s.many }

spell_out : (is : List Instr) (depth : ℕ) → IsBalanced depth is → SpellOut (trees is) is depth
unfolding joined behind_ends
spell_out [] depth h = record { list = refl; many = omega (arith, h) }
spell_out (LoopStart c n ∷ is) depth h = out_start c n depth (trees is) is (spell_out is (suc depth) h)
spell_out (LoopEnd ∷ is) zero h = absurd h
spell_out (LoopEnd ∷ is) (suc depth) h = out_end depth (trees is) is (spell_out is depth h)
spell_out (Arith v t s ∷ is) zero h = out_step (Arith v t s) zero (trees is) is (spell_out is zero h)
spell_out (Arith v t s ∷ is) (suc depth) h = out_step (Arith v t s) (suc depth) (trees is) is (spell_out is (suc depth) h)
spell_out (Clear c n ∷ is) zero h = out_step (Clear c n) zero (trees is) is (spell_out is zero h)
spell_out (Clear c n ∷ is) (suc depth) h = out_step (Clear c n) (suc depth) (trees is) is (spell_out is (suc depth) h)
spell_out (Call t q ∷ is) zero h = out_step (Call t q) zero (trees is) is (spell_out is zero h)
spell_out (Call t q ∷ is) (suc depth) h = out_step (Call t q) (suc depth) (trees is) is (spell_out is (suc depth) h)

only_one : (ts : List Tree) → length ts ≡ 1 → joined ts ≡ spelled (first_tree ts)
unfolding joined behind_ends
only_one [] many = absurd (omega (arith, many))
only_one (t ∷ []) many = append-nil (spelled t)
only_one (t ∷ (u ∷ ts)) many = absurd (omega (arith, many))

pub spelled-tree_of : (is : List Instr) → IsProgram is → spelled (tree_of is) ≡ is
spelled-tree_of is p =
    let s = spell_out is 0 p.balanced in
    sym (only_one (trees is) (omega (arith, s.many))) ∙ s.list
