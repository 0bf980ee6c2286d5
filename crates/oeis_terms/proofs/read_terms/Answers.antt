use Rattle.oeis_terms.proofs.Bounds.{bounded_answer}
use Rattle.oeis_terms.proofs.read_terms.Goals as goal

pub returns-clause-bounded : goal.returns-clause-bounded
returns-clause-bounded g c = bounded_answer c.in-Ok.bytes.items c.parse_terms.result c.in-Ok.ensures.answer.0 (rw c.as_slice.ensures.value at c.parse_terms.ensures)
