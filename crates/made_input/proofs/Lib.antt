-- How many proposals are made.
pub mod Made
-- Made rows are those of a table: their names ascend, and each has ten terms.
pub mod Rows
