-- What a cut takes out is an instruction or a loop whole, and what it leaves is a program.
pub mod Parts
-- What is found in the order of the places: the first of them that gives what passes the test.
pub mod Found
-- A cut that gives the given values, each within the steps that the program took, is a good one, and no other is.
pub mod Runs
-- The minimum is made cut by cut: how many cuts there may be doesn't matter, where they are as many as the instructions.
pub mod Least
