use Rattle.std.proofs.Common.{◌<◌, ◌≤◌, length, reverse, arith}
use Rattle.std.proofs.lemmas.Result.{err_from_is_err_and}
use Rattle.loda_syntax.specs.Reading.{draft_of, with_instr, open_after, add_last}
use Rattle.loda_syntax.proofs.Drafts.{first_fails, fails_so, with_one, one_too_many}
use Rattle.loda_syntax.proofs.draft.Draft.add.Goals as goal
use Rattle.loda_syntax.specs.declared.instr.TheConstants.{MOST_INSTRS}

pub returns-in_err-follow : goal.returns-in_err-follow
unfolding with_instr
returns-in_err-follow c =
    let p = err_from_is_err_and c.from_residual.result c.from_residual.ensures.1 in
    rw (p.1, p.2, ← c.self.view_is) (first_fails c.args.line (open_after c.args.line c.args.instr (reverse c.self.inside.open_at.items)) (add_last c.self.inside.list.items c.args.instr) c.in_err-follow.field-0.0 c.in_err-follow.ensures)

pub returns-then-len-ge-MOST_INSTRS : goal.returns-then-len-ge-MOST_INSTRS
returns-then-len-ge-MOST_INSTRS c =
    let le : MOST_INSTRS ≤ length c.self.inside.list.items = omega (arith, c.self.inside.list.ok.0, c.len.ensures) in
    fails_so c.args.line _ c.fault.result _ c.fault.ensures
    (rw (← c.self.view_is) (one_too_many c.args.line (draft_of c.self.inside.list.items (reverse c.self.inside.open_at.items)) c.args.instr (reverse c.follow.new.open_at.items) c.in_ok-follow.ensures le))

pub returns : goal.returns
returns c =
    let lt : length c.self.inside.list.items < MOST_INSTRS = omega (arith, c.self.inside.list.ok.0, c.len.ensures) in
    rw (← c.self.view_is, c.in_ok-push.ensures.items)
    (with_one c.args.line (draft_of c.self.inside.list.items (reverse c.self.inside.open_at.items)) c.args.instr (reverse c.follow.new.open_at.items) c.in_ok-follow.ensures lt)
