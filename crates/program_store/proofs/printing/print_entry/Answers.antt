use Rattle.std.proofs.lemmas.Result.{err_from_is_err_and}
use Rattle.loda_syntax.specs.Canon.{canon}
use Rattle.program_store.specs.Headers.{store_header}
use Rattle.program_store.specs.StoreText.{published_text}
use Rattle.program_store.proofs.PrintLoop.{AddsFront-header}
use Rattle.program_store.proofs.printing.print_entry.Goals as goal

pub returns-in_err-print_header-clause-err : goal.returns-in_err-print_header-clause-err
unfolding published_text
returns-in_err-print_header-clause-err c =
    let p = err_from_is_err_and c.from_residual.result c.from_residual.ensures.1 in
    rw p.1 (AddsFront-header c.args.out.now.items c.print_header.new.out.items (store_header c.args.name c.args.published.now.checked) (canon c.args.published.now.program) c.in_err-print_header.ensures.err)
