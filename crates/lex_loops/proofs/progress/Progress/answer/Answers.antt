use Rattle.std.proofs.Common.{◌<◌, refl, vec_len, arith}
use Rattle.lex_loops.proofs.Acts.{takes, logged-if}
use Rattle.lex_loops.proofs.progress.Progress.answer.Goals as goal

pub returns-clause-takes : goal.returns-clause-takes
returns-clause-takes c =
    takes c.args.self.now (record { at = c.args.self.now.at; cells = c.take_answer.new.self; marks = c.args.self.now.marks; target = c.args.self.now.target }) c.args.value
    refl refl c.take_answer.ensures.memory
    (λ lt. let some : 0 < vec_len c.args.self.now.marks = omega arith in c.take_answer.ensures.replaces (logged-if c.is_empty-logged.result (vec_len c.args.self.now.marks) c.is_empty-logged.ensures some))
    c.take_answer.ensures.within
