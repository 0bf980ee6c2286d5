-- A small table, by hand: three pages, of which the second is absent.
pub mod Examples
-- What stands at a place of a block, by the `Arc`s that hold it.
pub mod Rows
-- What stands at a place of a table whose pages have any width, and what a write of one place makes of it.
pub mod Widths
-- What stands at a place of a row, by the blocks that hold it.
pub mod Blocks
-- What a table's map has at a name, and what a write of one place makes of it.
pub mod Tables
