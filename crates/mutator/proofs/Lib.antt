-- A change that leaves each beginning and each end of a loop in its place keeps loops balanced.
pub mod Balance
-- How many words are taken at most.
pub mod WordsTaken
-- What is made of a program is a program.
pub mod KeepsProgram
-- Changes one by one: how a list that takes them comes to what is made.
pub mod Changes
-- The first 19 words decide which program is made.
pub mod FirstWords
