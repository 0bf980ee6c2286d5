use Rattle.loda_mine.proofs.Opened.{no_rows}
use Rattle.loda_mine.proofs.files.terms_at.Goals as goal

pub returns-in-None-clause-bounded : goal.returns-in-None-clause-bounded
returns-in-None-clause-bounded g c = no_rows c.parse_terms.result c.parse_terms.ensures
