use Rattle.text_parts.proofs.NameBack.{name_back}
use Rattle.text_parts.proofs.laws.name_text_reads_back.Goals as goal

pub returns : goal.returns
returns c = name_back
