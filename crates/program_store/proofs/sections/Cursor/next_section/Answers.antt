use Rattle.std.proofs.Common.{rules}
use Rattle.program_store.proofs.Cutting.{cut-empty, section_first}
use Rattle.program_store.proofs.sections.Cursor.next_section.Goals as goal

pub returns-then-is_empty-clause-none : goal.returns-then-is_empty-clause-none
returns-then-is_empty-clause-none c = cut-empty c.args.self.now.sign c.args.self.now.line c.args.self.now.rest.now (search rules)

pub returns-clause-some : goal.returns-clause-some
returns-clause-some c =
    section_first c.args.self.now.sign c.args.self.now.line c.next_line-header.new.self.sign c.next_line-header.new.self.line c.args.self.now.rest.now c.next_line-header.result.now
    c.next_line-header.new.self.rest.now c.text-text.result.now _ c.next_line-header.ensures.sign c.next_line-header.ensures.line c.requires.at_header c.next_line-header.ensures.cut c.text-text.ensures.text c.text-text.ensures.cut
