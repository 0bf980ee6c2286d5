-- The names of a store, one after the other.
pub mod Names
-- The values of a program, and the terms that it gives, one after the other.
pub mod Values
-- The proposals of matches, one after the other, and that a match has a name.
pub mod Matched
-- The first that is accepted, else the first, else none, is one.
pub mod Chosen
