-- Which bytes stand in which parts of a canonical text.
pub mod Bytes
-- What is read, and what is not, in the words of the laws.
pub mod Causes
-- A line's content, by its word and its operands.
pub mod Contents
-- Cutting a list at the first element that passes a test, by the place that `position` finds.
pub mod Cuts
-- A draft of a program, line by line.
pub mod Drafts
-- Whether two programs are equal, by the tests that the derives write.
pub mod Equal
-- What is read of a line is in range.
pub mod Formed
-- Each text has one program or one first fault.
pub mod Meaning
-- The operands of a line, by the commas between them.
pub mod Operands
-- Printing line by line.
pub mod Printed
-- What holds of a value that was read, if it was.
pub mod Results
-- The canonical text of a program reads as that program.
pub mod Round
-- Canonical texts as sections of a file: how their lines begin, and how they end.
pub mod Sections
-- A balanced list is what its tree spells out.
pub mod Spelling
-- A text's lines, read one after the other as a loop does.
pub mod Texts
