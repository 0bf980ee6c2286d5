-- A run depends on the programs of the names that it reaches alone.
pub mod Agree
-- The entries that lead from one store to another, with their programs and counts.
pub mod Puts
-- What one accepted entry did not change keeps its direct calls.
pub mod Steady
-- What no entry of a list changed keeps its direct calls.
pub mod Chain
-- Which checked runs demand an argument of a name is the same in both stores.
pub mod Demands
-- What a proposal meets alike in two stores gives it the same answer in both.
pub mod Cases
-- Where no entry has a name in the reach, a proposal meets the same in both stores.
pub mod Meeting
-- The carry law, for terms of any length.
pub mod Wide
-- The finished runs of a carried proposal are those in the newer store.
-- What the walk of a published program tells.
pub mod Below
-- A name is on one of five lists, put one behind the other, where it is in a reach.
pub mod Reaching
-- The first of some changes whose name has a property.
pub mod Touching
-- The finished runs of a carried proposal are those in the newer store.
pub mod Frames
-- What is true of a finding in one store is true in a later one, where no change touches its reach.
pub mod Findings
