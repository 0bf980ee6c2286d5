-- How many words a source gave.
pub mod Within
-- Which words the two sources give.
pub mod WordsOf
-- Two sources that give the same first words.
pub mod Same
