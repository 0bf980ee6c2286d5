use Rattle.std.proofs.Common.{◌∙◌}
use Rattle.lex_loops.proofs.Going.{advances}
use Rattle.lex_loops.proofs.machine.Machine.advance.Goals as goal

pub returns-clause-stops : goal.returns-clause-stops
returns-clause-stops c =
    advances c.args.self.now c.self.inside.of.value c.instrs.result.now c.self.inside.run c.run.new.self c.self.inside.phase c.phase_of-self-inside.result c.args.budget.now c.run.new.budget c.in_ok-stop.stop
    c.self.view_is (c.instrs.ensures.value ∙ c.requires.program) c.in_ok-stop.ensures.stops
