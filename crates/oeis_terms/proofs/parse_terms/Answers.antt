use Rattle.oeis_terms.proofs.Parsing.{rows_kept, names_kept, table_read, error_read}
use Rattle.oeis_terms.proofs.parse_terms.Goals as goal

pub of-requires-clause-rows : goal.of-requires-clause-rows
of-requires-clause-rows c = rows_kept c.args.bytes.now c.in-Ok.reading c.in-Ok.ensures

pub of-requires-clause-names : goal.of-requires-clause-names
of-requires-clause-names c = names_kept c.args.bytes.now c.in-Ok.reading c.in-Ok.ensures

pub returns-in-Ok : goal.returns-in-Ok
returns-in-Ok c = table_read c.args.bytes.now c.in-Ok.reading c.of.result c.in-Ok.ensures c.of.ensures

pub returns-in-Err : goal.returns-in-Err
returns-in-Err c = error_read c.args.bytes.now c.in-Err.error c.in-Err.ensures
