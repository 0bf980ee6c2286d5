use Rattle.std.proofs.Common.{ℕ, suc, ◌+◌, ◌-◌, ◌≡◌, ◌++◌, ◌∷◌, [], ap, length, refl, arith, ◌∙◌}
use Rattle.lex_loops.specs.declared.progress.Progress.{Progress}
use Rattle.lex_loops.specs.declared.marks.Mark.{Mark}
use Rattle.lex_loops.proofs.Acts.{acts-open, acts-open-spent}
use Rattle.lex_loops.proofs.progress.Progress.open.Goals as goal

pub returns-then-budget-eq0-clause-acts : goal.returns-then-budget-eq0-clause-acts
returns-then-budget-eq0-clause-acts c = acts-open-spent c.args.start c.args.len c.args.self.now c.args.self.now c.args.budget.now c.if-budget-eq0.true

pub returns-clause-acts : goal.returns-clause-acts
returns-clause-acts c =
    let old = c.args.self.now in
    let new : Progress = record { at = old.at + 1; cells = old.cells; marks = c.push.new.self; target = old.target } in
    let sum : c.args.budget.now - 1 + 1 ≡ c.args.budget.now = omega arith in
    let at : old.at + 1 ≡ suc old.at = omega arith in
    let logged : c.len.result ≡ length old.cells.log.items = omega arith in
    let mark = λ (b l : ℕ). let m : Mark = record { body = b; start = c.args.start; len = c.args.len; logged = l } in old.marks.items ++ m ∷ [] in
    acts-open c.args.start c.args.len old new c.args.budget.now (c.args.budget.now - 1) sum at c.requires.some c.requires.region refl refl
    (c.in_ok-push.ensures.items ∙ ap (λ b. mark b c.len.result) at ∙ ap (mark (suc old.at)) logged)
