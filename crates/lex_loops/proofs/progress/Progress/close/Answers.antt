use Rattle.std.proofs.Common.{suc, ◌-◌, ◌≡◌, ◌<◌, ◌≤◌, length, vec_len, sym, arith, ◌∙◌}
use Rattle.lex_loops.proofs.Acts.{acts-close-spent, acts-again, acts-leave, outside-logged}
use Rattle.lex_loops.proofs.progress.Progress.close.Goals as goal

pub returns-then-budget-cost-clause-acts : goal.returns-then-budget-cost-clause-acts
returns-then-budget-cost-clause-acts c =
    let lt : c.args.budget.now < c.in-Some.mark.len = omega arith in
    acts-close-spent c.args.self.now c.args.self.now c.in-Some.mark c.pop.new.self.items c.args.budget.now c.in-Some.ensures.items lt

pub again-requires-clause-logged : goal.again-requires-clause-logged
again-requires-clause-logged c =
    outside-logged c.requires.end.list c.args.self.now c.in-Some.mark c.pop.new.self.items c.in-Some.ensures.items c.requires.end.here c.requires.end.under_way

pub returns-then-is_less-clause-acts : goal.returns-then-is_less-clause-acts
returns-then-is_less-clause-acts c =
    let le : c.in-Some.mark.len ≤ c.args.budget.now = omega arith in
    let sum : c.args.budget.now - c.from-cost.result ≡ c.args.budget.now - c.in-Some.mark.len = omega arith in
    acts-again c.args.self.now c.again.new.self c.in-Some.mark c.pop.new.self.items c.args.budget.now (c.args.budget.now - c.from-cost.result)
    c.in-Some.ensures.items le sum (sym c.is_less.ensures ∙ c.if-is_less.true) c.again.ensures.at c.again.ensures.values c.again.ensures.log c.again.ensures.within c.again.ensures.marks

pub returns-clause-acts : goal.returns-clause-acts
returns-clause-acts c =
    let le : c.in-Some.mark.len ≤ c.args.budget.now = omega arith in
    let sum : c.args.budget.now - c.from-cost.result ≡ c.args.budget.now - c.in-Some.mark.len = omega arith in
    let at : c.leave.new.self.at ≡ suc c.args.self.now.at = omega arith in
    acts-leave c.args.self.now c.leave.new.self c.in-Some.mark c.pop.new.self.items c.args.budget.now (c.args.budget.now - c.from-cost.result)
    c.in-Some.ensures.items le sum (sym c.is_less.ensures ∙ c.if-is_less.false) at c.leave.ensures.memory c.leave.ensures.log c.leave.ensures.marks c.leave.ensures.len
