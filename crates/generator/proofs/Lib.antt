-- What holds of both values holds of a choice of them.
pub mod Choices
-- How many words are taken at most.
pub mod WordsTaken
-- What is made is a program.
pub mod MadeWell
-- Turns one by one: how a list that grows by them comes to what is generated.
pub mod Turns
-- The first 33 words decide which program is made.
pub mod FirstWords
