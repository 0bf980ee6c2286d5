use Rattle.std.proofs.Common.{sym}
use Rattle.std.proofs.lemmas.Result.{err_from_is_err_and}
use Rattle.program_store.specs.Headers.{store_header_read}
use Rattle.program_store.specs.Files.{entry_read}
use Rattle.program_store.proofs.Sectioned.{entry_unread, entry_refused, entry_whole, Answers-entry}
use Rattle.program_store.proofs.reading.entry_of.Goals as goal

pub returns-in_default-clause-value : goal.returns-in_default-clause-value
unfolding entry_read
returns-in_default-clause-value c = rw c.bad.ensures (entry_unread c.args.last _ (store_header_read c.args.section.header.now) c.in_default.ensures.value)

pub returns-in-Some-entry_fault-clause-value : goal.returns-in-Some-entry_fault-clause-value
unfolding entry_read
returns-in-Some-entry_fault-clause-value c =
    rw c.bad-in-Some-entry_fault.ensures (entry_refused c.args.last _ (store_header_read c.args.section.header.now) c.in-Some.name c.in-Some.checked c.in-Some-entry_fault.kind c.in-Some.ensures.value (sym c.in-Some-entry_fault.ensures))

pub returns-in_err-program-clause-value : goal.returns-in_err-program-clause-value
unfolding entry_read
returns-in_err-program-clause-value c = let p = err_from_is_err_and c.from_residual.result c.from_residual.ensures.1 in rw (p.1, p.2)
    (Answers-entry c.args.last _ (store_header_read c.args.section.header.now) c.in-Some.name c.in-Some.checked c.in_err-program.field-0.0 c.in-Some.ensures.value (sym c.in_default-entry_fault.ensures) c.in_err-program.ensures)

pub returns-clause-value : goal.returns-clause-value
unfolding entry_read
returns-clause-value c =
    entry_whole c.args.last _ (store_header_read c.args.section.header.now) c.in-Some.name c.in-Some.checked c.in_ok-program.program c.in-Some.ensures.value (sym c.in_default-entry_fault.ensures) c.in_ok-program.ensures
