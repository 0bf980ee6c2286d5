use Rattle.std.proofs.Common.{suc, ◌+◌, ◌-◌, ◌≡◌, ◌<◌, subst, refl, vec_len, arith}
use Rattle.loda_syntax.specs.declared.instr.Instr.TheVariants.{Arith}
use Rattle.lex_loops.specs.declared.progress.Progress.{Progress}
use Rattle.lex_loops.specs.Steps.{Acts}
use Rattle.lex_loops.proofs.Acts.{Passes, acts-spent, acts-arithmetic, stop_of, logged-if}
use Rattle.lex_loops.proofs.progress.Progress.arithmetic.Goals as goal

pub returns-then-budget-eq0-clause-acts : goal.returns-then-budget-eq0-clause-acts
returns-then-budget-eq0-clause-acts c =
    let lt : c.args.budget.now < 1 = omega arith in acts-spent (Arith c.args.verb c.args.target c.args.source) c.args.self.now c.args.self.now c.args.budget.now tt lt

pub returns-in-Some-clause-acts : goal.returns-in-Some-clause-acts
returns-in-Some-clause-acts c =
    let old = c.args.self.now in
    let new : Progress = record { at = old.at + 1; cells = c.arithmetic.new.self; marks = old.marks; target = old.target } in
    let passes : Passes old new = record {
      at = (let e : old.at + 1 ≡ suc old.at = omega arith in e);
      marks = refl;
      replaces = λ lt. let some : 0 < vec_len old.marks = omega arith in c.in_ok-kind.ensures.replaces (logged-if c.is_empty-logged.result (vec_len old.marks) c.is_empty-logged.ensures some);
      within = c.in_ok-kind.ensures.within;
    } in
    let sum : c.args.budget.now - 1 + 1 ≡ c.args.budget.now = omega arith in
    subst (λ f. Acts (Arith c.args.verb c.args.target c.args.source) old c.args.budget.now (stop_of f) (c.args.budget.now - 1) new) c.in-Some.is
    (acts-arithmetic c.args.verb c.args.target c.args.source old new c.args.budget.now (c.args.budget.now - 1) c.in_ok-kind.field-0 sum passes c.in_ok-kind.ensures.does)

pub returns-in-None-clause-acts : goal.returns-in-None-clause-acts
returns-in-None-clause-acts c =
    let old = c.args.self.now in
    let new : Progress = record { at = old.at + 1; cells = c.arithmetic.new.self; marks = old.marks; target = old.target } in
    let passes : Passes old new = record {
      at = (let e : old.at + 1 ≡ suc old.at = omega arith in e);
      marks = refl;
      replaces = λ lt. let some : 0 < vec_len old.marks = omega arith in c.in_ok-kind.ensures.replaces (logged-if c.is_empty-logged.result (vec_len old.marks) c.is_empty-logged.ensures some);
      within = c.in_ok-kind.ensures.within;
    } in
    let sum : c.args.budget.now - 1 + 1 ≡ c.args.budget.now = omega arith in
    subst (λ f. Acts (Arith c.args.verb c.args.target c.args.source) old c.args.budget.now (stop_of f) (c.args.budget.now - 1) new) c.in-None.is
    (acts-arithmetic c.args.verb c.args.target c.args.source old new c.args.budget.now (c.args.budget.now - 1) c.in_ok-kind.field-0 sum passes c.in_ok-kind.ensures.does)
