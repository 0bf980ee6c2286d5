use Rattle.std.proofs.Common.{suc, ◌+◌, ◌-◌, ◌≡◌, ◌<◌, max, refl, vec_len, arith}
use Rattle.loda_syntax.specs.declared.instr.Instr.TheVariants.{Clear}
use Rattle.lex_loops.specs.declared.progress.Progress.{Progress}
use Rattle.lex_loops.proofs.Acts.{Passes, acts-spent, acts-clear, logged-if}
use Rattle.lex_loops.proofs.progress.Progress.clear.Goals as goal

pub returns-then-budget-cost-clause-acts : goal.returns-then-budget-cost-clause-acts
returns-then-budget-cost-clause-acts c =
    let lt : c.args.budget.now < max 1 c.args.count = omega arith in acts-spent (Clear c.args.start c.args.count) c.args.self.now c.args.self.now c.args.budget.now tt lt

pub returns-clause-acts : goal.returns-clause-acts
returns-clause-acts c =
    let old = c.args.self.now in
    let new : Progress = record { at = old.at + 1; cells = c.clear.new.self; marks = old.marks; target = old.target } in
    let passes : Passes old new = record {
      at = (let e : old.at + 1 ≡ suc old.at = omega arith in e);
      marks = refl;
      replaces = λ lt. let some : 0 < vec_len old.marks = omega arith in c.in_ok-clear.ensures.replaces (logged-if c.is_empty-logged.result (vec_len old.marks) c.is_empty-logged.ensures some);
      within = c.in_ok-clear.ensures.within;
    } in
    let sum : c.args.budget.now - c.max-cost.result + max 1 c.args.count ≡ c.args.budget.now = omega arith in
    acts-clear c.args.start c.args.count old new c.args.budget.now (c.args.budget.now - c.max-cost.result) sum passes c.in_ok-clear.ensures.memory
