use Rattle.std.proofs.Common.{suc, ◌+◌, ◌-◌, ◌≡◌, ◌<◌, ◌∙◌, length, refl, sym, subst, vec_len, arith}
use Rattle.loda_syntax.specs.declared.instr.Instr.TheVariants.{Call}
use Rattle.lex_loops.specs.declared.progress.Progress.{Progress}
use Rattle.lex_loops.specs.Memories.{IsWithin}
use Rattle.lex_loops.specs.Steps.{HasRoom, memory_in}
use Rattle.lex_loops.proofs.Memories.{replaces-same, within-more}
use Rattle.lex_loops.proofs.Acts.{Passes, acts-spent, acts-bad-call, acts-call, logged-if}
use Rattle.lex_loops.proofs.progress.Progress.call.Goals as goal

pub returns-then-budget-eq0-clause-acts : goal.returns-then-budget-eq0-clause-acts
returns-then-budget-eq0-clause-acts c =
    let lt : c.args.budget.now < 1 = omega arith in acts-spent (Call c.args.target c.args.name) c.args.self.now c.args.self.now c.args.budget.now tt lt

pub returns-in-None-clause-acts : goal.returns-in-None-clause-acts
returns-in-None-clause-acts c =
    let sum : c.args.budget.now - 1 + 1 ≡ c.args.budget.now = omega arith in
    acts-bad-call c.args.target c.args.name c.args.self.now c.args.self.now c.args.budget.now (c.args.budget.now - 1) sum (c.address.ensures.value ∙ c.in-None.is)

pub returns-clause-acts : goal.returns-clause-acts
returns-clause-acts c =
    let old = c.args.self.now in
    let new : Progress = record { at = old.at + 1; cells = c.take_room.new.self; marks = old.marks; target = c.in-Some.address } in
    let passes : Passes old new = record {
      at = (let e : old.at + 1 ≡ suc old.at = omega arith in e);
      marks = refl;
      replaces = λ lt. replaces-same old.cells.log.items c.take_room.new.self.log.items (memory_in old) (memory_in new) c.in_ok-take_room.ensures.log c.in_ok-take_room.ensures.memory;
      within = λ h. within-more (length old.cells.values.items) (length new.cells.values.items) new.cells.log.items c.in_ok-take_room.ensures.len
          (subst (IsWithin (length old.cells.values.items)) (sym c.in_ok-take_room.ensures.log) h);
    } in
    let room : HasRoom new = record {
      target = c.in_ok-take_room.ensures.cell;
      log = λ lt. let some : 0 < vec_len old.marks = omega arith in c.in_ok-take_room.ensures.room (logged-if c.is_empty-logged.result (vec_len old.marks) c.is_empty-logged.ensures some);
    } in
    let sum : c.args.budget.now - 1 + 1 ≡ c.args.budget.now = omega arith in
    acts-call c.args.target c.args.name c.read-arg.result old new c.args.budget.now (c.args.budget.now - 1) sum passes (c.address.ensures.value ∙ c.in-Some.is) c.in_ok-take_room.ensures.memory c.read-arg.ensures room
