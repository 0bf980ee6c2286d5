-- Cutting after a byte, from the front.
pub mod Cuts
-- Pieces and lines by the first cut, and lines without what stands at their end.
pub mod Lines
-- Reading items one after the other, as a loop does.
pub mod Items
-- Reading the terms of a row, as a loop does.
pub mod Terms
-- Rows in ascending order of name, and the look-up of a name.
pub mod Ascending
-- Rows in any order, and the same rows in ascending order of name.
pub mod Sorting
-- What a line that is a row says of its bytes.
pub mod Said
-- Reading lines one after the other, as a loop does.
pub mod LinesRead
-- What holds of the rows of a file without a fault.
pub mod Facts
-- What reading the lines of a file gives for its table.
pub mod Parsing
-- A file that is read whole has lines of at most 65,536 bytes, so no row has too many terms.
pub mod Bounds
