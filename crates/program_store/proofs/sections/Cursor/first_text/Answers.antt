use Rattle.std.proofs.Common.{sym, subst, arith, ◌∙◌, ap, length, length-append}
use Rattle.program_store.specs.Sections.{cut_from}
use Rattle.program_store.proofs.Cutting.{Searched, searched_line, searched_found, searched_all}
use Rattle.program_store.proofs.sections.Cursor.first_text.Goals as goal

pub loop-number-preserved : goal.loop-number-preserved
loop-number-preserved c =
    let old = c.args.self.now in
    let before = c.loop-number.self in
    let after = c.next_line-line.new.self in
    let line = c.next_line-line.result.now in
    let parts = ap length c.next_line-line.ensures.rest ∙ length-append line after.rest.now in
    let so_far = searched_line before.sign (cut_from old.sign old.line old.rest.now) before.line before.rest.now line after.rest.now c.loop-number.invariant.2 (sym c.loop-number-test.ensures) c.next_line-line.ensures.some c.next_line-line.ensures.rest c.next_line-line.ensures.cut
    (sym c.if-has_text.ensures) in (
      c.next_line-line.ensures.sign ∙ c.loop-number.invariant.0,
      omega (arith, parts, c.loop-number.invariant.1, c.next_line-line.ensures.line, c.next_line-line.ensures.some),
      subst (λ s. Searched s (cut_from old.sign old.line old.rest.now) after.line after.rest.now) (sym c.next_line-line.ensures.sign)
          (subst (λ n. Searched before.sign (cut_from old.sign old.line old.rest.now) n after.rest.now) (sym c.next_line-line.ensures.line) so_far),
    )

pub returns-then-has_text-clause-text : goal.returns-then-has_text-clause-text
returns-then-has_text-clause-text c =
    let old = c.args.self.now in
    let before = c.loop-number.self in
    sym (searched_found before.sign (cut_from old.sign old.line old.rest.now) before.line before.rest.now c.next_line-line.result.now c.next_line-line.new.self.rest.now c.loop-number.invariant.2 (sym c.loop-number-test.ensures) c.next_line-line.ensures.some
    c.next_line-line.ensures.rest c.next_line-line.ensures.cut (sym c.if-has_text.ensures))

pub returns-clause-text : goal.returns-clause-text
returns-clause-text c = sym (searched_all c.loop-number.self.sign _ c.loop-number.self.line c.loop-number.self.rest.now c.loop-number.invariant.2 (sym c.loop-number-test.ensures)).0

pub returns-clause-none : goal.returns-clause-none
returns-clause-none c = (searched_all c.loop-number.self.sign _ c.loop-number.self.line c.loop-number.self.rest.now c.loop-number.invariant.2 (sym c.loop-number-test.ensures)).1
