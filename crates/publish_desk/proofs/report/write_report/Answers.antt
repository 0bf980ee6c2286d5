use Rattle.std.proofs.Common.{ap, subst, ◌≡◌, ◌∙◌, ◌++◌, List, ℕ, length, append_assoc}
use Rattle.std.specs.Prelude.{codes}
use Rattle.std.proofs.lemmas.Result.{err_from_is_err_and}
use Rattle.loda_syntax.specs.Answers.{AddsFront}
use Rattle.program_store.specs.Store.{Store}
use Rattle.program_store.specs.StoreText.{store_text}
use Rattle.publish_desk.specs.declared.entry.Entry.{Entry}
use Rattle.publish_desk.specs.Report.{entries_text, end_text, report}
use Rattle.publish_desk.proofs.Texts.{longer_front, report_is}
use Rattle.publish_desk.proofs.report.write_report.Goals as goal

pub returns-in_err-print_store-clause-err : goal.returns-in_err-print_store-clause-err
returns-in_err-print_store-clause-err c =
    let p = err_from_is_err_and c.from_residual-in_err-print_store.result c.from_residual-in_err-print_store.ensures.1 in
    let d = c.args.desk.now in
    let old = c.args.out.now.items in
    let mid = c.extend_from_slice-2.new.self.items in
    let first = codes "journal\n" in
    let entries = entries_text d.journal in
    let third = codes "store\n" in
    let wrote : c.write_entries.new.out.items ≡ c.extend_from_slice.new.self.items ++ entries =
    c.in_ok-write_entries.ensures.ok ∙ ap (λ (es : List Entry). c.extend_from_slice.new.self.items ++ entries_text es) c.entries.ensures.value in
    let so_far : mid ≡ old ++ (first ++ entries ++ third) =
    c.in_ok-extend_from_slice-2.ensures.items ∙ ap (λ (t : List ℕ). t ++ third) (wrote ∙ ap (λ (t : List ℕ). t ++ entries) c.in_ok-extend_from_slice.ensures.items)
    ∙ ap (λ (t : List ℕ). t ++ third) (append_assoc old first entries) ∙ append_assoc old (first ++ entries) third in
    let adds : AddsFront mid c.print_store.new.out.items (store_text d.store) =
    subst (λ (s : Store). AddsFront mid c.print_store.new.out.items (store_text s)) c.tables.ensures c.in_err-print_store.ensures.err in
    rw p.1 (longer_front old mid c.print_store.new.out.items (first ++ entries ++ third) (store_text d.store) (end_text (length d.journal) d.version) (report d.journal d.version d.store) so_far adds (report_is d.journal d.version d.store))
