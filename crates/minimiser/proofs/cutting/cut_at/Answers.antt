use Rattle.std.proofs.Common.{◌≡◌, ◌-◌, sym, ap, subst, ◌∙◌, List, ◌++◌, length, take, drop, length-drop, arith}
use Rattle.std.proofs.lemmas.List.{take_all}
use Rattle.loda_syntax.specs.declared.instr.Instr.{Instr}
use Rattle.loda_syntax.specs.WellFormed.{IsProgram}
use Rattle.minimiser.specs.Cuts.{rest_behind}
use Rattle.minimiser.proofs.Parts.{program-cut}
use Rattle.minimiser.proofs.cutting.cut_at.Goals as goal

pub unreachable-requires : goal.unreachable-requires
unreachable-requires c =
    let list = c.instrs-list.result.now in
    let rest = c.in-Some.rest.now in
    let left : c.extend_from_slice-2.new.self.items ≡ take c.args.place list ++ rest =
    c.in_ok-extend_from_slice-2.ensures.items
    ∙ ap (λ (xs : List Instr). xs ++ rest) (c.in_ok-extend_from_slice.ensures.items ∙ ap (λ (xs : List Instr). xs ++ take c.args.place list) c.in_ok-left.ensures.items) in
    let behind_it = ap rest_behind (sym (take_all (length list - c.args.place) (drop c.args.place list) (omega (arith, length-drop c.args.place list)))) ∙ c.in-Some.ensures in
    c.in_default-new.ensures.bad
    (subst (λ (xs : List Instr). IsProgram xs) (sym left) (program-cut list rest c.args.place behind_it c.instrs-list.ensures.program))
