use Rattle.std.proofs.Common.{ℕ, List, ◌≡◌, ◌++◌, ◌∙◌, refl, ap, subst, length}
use Rattle.std.proofs.lemmas.Result.{err_from_is_err_and}
use Rattle.loda_mine.specs.declared.files.Contents.{Contents}
use Rattle.command_words.specs.declared.request.Task.TheVariants.{Publish}
use Rattle.loda_mine.specs.Answer.{IsDecided, Refuses}
use Rattle.loda_mine.specs.Outputs.{summary_text}
use Rattle.loda_mine.proofs.Unrefused.{made_refused}
use Rattle.loda_mine.proofs.making.run.Goals as goal

pub returns-in_err-desk : goal.returns-in_err-desk
returns-in_err-desk c = λ inside.
    let p = err_from_is_err_and c.from_residual-in_err-desk.result c.from_residual-in_err-desk.ensures.1 in
    let s = c.in_err-desk.field-0.0 in
    rw (p.1, p.2) (made_refused c.args.n c.args.limit inside s
    (subst (λ (t : Contents). Refuses Publish c.args.limit t s) c.in_ok-contents.ensures.contents (c.in_err-desk.ensures.refused s refl)))

pub returns : goal.returns
returns c = λ inside.
    let d = c.in_ok-desk.desk in
    let made = c.in_ok-contents.ensures.contents in
    let rows = c.rows-rows.ensures.rows ∙ ap (λ (t : Contents). length t.terms.rows) made in (
      d,
      subst (λ (t : Contents). IsDecided t c.args.limit d) made c.in_ok-desk.ensures.decided,
      c.in_ok-write_summary.ensures
          ∙ ap (λ (z : List ℕ). z ++ summary_text c.args.n c.rows-rows.result d.journal d.version) c.new-output.ensures.items
          ∙ ap (λ (r : ℕ). summary_text c.args.n r d.journal d.version) rows,
    )
