-- A machine at the start of its program.
use Rattle.std.proofs.Common.{ℕ, zero, suc, ◌≡◌, refl, sym, ap, subst, ◌∙◌, ℤ, List, [], ◌∷◌, length, drop, reverse, arith}
use Rattle.loda_syntax.specs.declared.instr.Instr.{Instr}
use Rattle.loda_syntax.specs.Programs.{Text, instrs}
use Rattle.loda_syntax.specs.Trees.{trees, rest_of, tree_of}
use Rattle.loda_syntax.specs.WellFormed.{IsProgram, IsBalanced}
use Rattle.loda_semantics.specs.Memory.{memory_with}
use Rattle.loda_semantics.specs.Exec.{exec}
use Rattle.lex_loops.specs.declared.progress.Progress.{Progress}
use Rattle.lex_loops.specs.declared.stop.Phase.{Phase}
use Rattle.lex_loops.specs.Memories.{memory_of, IsWithin}
use Rattle.lex_loops.specs.State.{run_from, loops_of_marks, Begins}
use Rattle.lex_loops.specs.Steps.{IsAtStart, IsUnderWay, AreLoopMarks}
use Rattle.lex_loops.specs.Machines.{machine_state}

-- one cell, which holds the argument
one_cell : (x : ℤ) (c : ℕ) → memory_of (x ∷ []) c ≡ memory_with x c
one_cell x zero = refl
one_cell x (suc c) = grind arith

pub begins : (p : Text) (run : Progress) (phase : Phase) (x : ℤ) → IsAtStart x run → Begins (machine_state p run phase) p x
begins p run phase x s = λ callee n.
    ap (λ a. run_from callee (instrs p) a (loops_of_marks run.cells.log.items (memory_of run.cells.values.items) (reverse run.marks.items)) (memory_of run.cells.values.items) n) s.at
    ∙ ap (λ ms. run_from callee (instrs p) 0 (loops_of_marks run.cells.log.items (memory_of run.cells.values.items) (reverse ms)) (memory_of run.cells.values.items) n) s.marks
    ∙ ap (λ cs. exec callee (tree_of (instrs p)) (memory_of cs) n) s.cells
    ∙ ap (λ m. exec callee (tree_of (instrs p)) m n) (λ i c. one_cell x c i)

pub starts-under_way : (list : List Instr) (run : Progress) (x : ℤ) → IsProgram list → IsAtStart x run → IsUnderWay list run
starts-under_way list run x is s = record {
  balanced = subst (λ a. IsBalanced (length run.marks.items) (drop a list)) (sym s.at) (subst (λ ms. IsBalanced (length ms) list) (sym s.marks) is.balanced);
  marks = subst (λ ms. AreLoopMarks list (rest_of (trees (drop run.at list))) (length run.cells.log.items) (reverse ms)) (sym s.marks) tt;
  within = subst (IsWithin (length run.cells.values.items)) (sym s.log) (λ k d lt. absurd (omega arith));
}
