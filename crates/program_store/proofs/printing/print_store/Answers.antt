use Rattle.std.proofs.Common.{sym, ap, ◌∙◌, arith}
use Rattle.std.specs.Option.{option_copied}
use Rattle.std.proofs.lemmas.Result.{err_from_is_err_and}
use Rattle.program_store.proofs.PrintLoop.{printed_none, printed_next, printed_front, printed_all, found_some}
use Rattle.program_store.proofs.printing.print_store.Goals as goal

pub loop-name-init : goal.loop-name-init
loop-name-init g c = (omega arith, printed_none (g.V.View.store c.args.view.now) c.args.out.now.items)

pub unwrap-requires : goal.unwrap-requires
unwrap-requires g c = found_some c.published.result _ c.published.ensures.value c.in-Some.ensures.some.1

pub loop-name-preserved : goal.loop-name-preserved
loop-name-preserved g c = (
  c.in-Some.ensures.named.1,
  printed_next (g.V.View.store c.args.view.now) c.args.out.now.items c.loop-name.last c.loop-name.out.items c.loop-name.invariant.1 c.in-Some.ensures.kept c.in-Some.name c.unwrap.result.now c.print_entry.new.out.items c.in-Some.ensures.some.0
      (sym c.published.ensures.value ∙ ap option_copied c.unwrap.ensures) c.in-Some.ensures.least c.in_ok-print_entry.ensures.ok,
)

pub returns-in_err-print_entry-clause-err : goal.returns-in_err-print_entry-clause-err
returns-in_err-print_entry-clause-err g c =
    let p = err_from_is_err_and c.from_residual.result c.from_residual.ensures.1 in
    rw p.1 (printed_front (g.V.View.store c.args.view.now) c.args.out.now.items c.loop-name.last c.loop-name.out.items c.loop-name.invariant.1 c.in-Some.ensures.kept c.in-Some.name c.unwrap.result.now c.print_entry.new.out.items c.in-Some.ensures.some.0
    (sym c.published.ensures.value ∙ ap option_copied c.unwrap.ensures) c.in-Some.ensures.least c.in_err-print_entry.ensures.err)

pub returns-clause-ok : goal.returns-clause-ok
returns-clause-ok g c = printed_all (g.V.View.store c.args.view.now) c.args.out.now.items c.loop-name.last c.loop-name.out.items c.loop-name.invariant.1 c.in_default.ensures.kept c.in_default.ensures.none
