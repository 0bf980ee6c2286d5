use Rattle.std.proofs.Common.{sym, subst, arith, ◌∙◌, ap, length, length-append}
use Rattle.program_store.specs.Sections.{cut_from}
use Rattle.program_store.proofs.Cutting.{Passed, passed_line, passed_all}
use Rattle.program_store.proofs.sections.Cursor.text.Goals as goal

pub loop-self-preserved : goal.loop-self-preserved
loop-self-preserved c =
    let old = c.args.self.now in
    let before = c.loop-self.self in
    let after = c.next_line.new.self in
    let line = c.next_line.result.now in
    let parts = ap length c.next_line.ensures.rest ∙ length-append line after.rest.now in
    let so_far = passed_line before.sign (cut_from old.sign old.line old.rest.now) old.rest.now before.line before.rest.now line after.rest.now c.loop-self.invariant.2 (sym c.loop-self-test.ensures) c.next_line.ensures.some c.next_line.ensures.rest c.next_line.ensures.cut in (
      c.next_line.ensures.sign ∙ c.loop-self.invariant.0,
      omega (arith, parts, c.loop-self.invariant.1, c.next_line.ensures.line, c.next_line.ensures.some),
      subst (λ s. Passed s (cut_from old.sign old.line old.rest.now) old.rest.now after.line after.rest.now) (sym c.next_line.ensures.sign)
          (subst (λ n. Passed before.sign (cut_from old.sign old.line old.rest.now) old.rest.now n after.rest.now) (sym c.next_line.ensures.line) so_far),
    )

pub returns-clause-text : goal.returns-clause-text
returns-clause-text c = (passed_all c.loop-self.self.sign _ _ c.loop-self.self.line c.loop-self.self.rest.now c.loop-self.invariant.2 (sym c.loop-self-test.ensures)).text

pub returns-clause-cut : goal.returns-clause-cut
returns-clause-cut c = (passed_all c.loop-self.self.sign _ _ c.loop-self.self.line c.loop-self.self.rest.now c.loop-self.invariant.2 (sym c.loop-self-test.ensures)).left
