-- Values, terms and outcomes.
pub mod Values
-- The least with a property, and the first with it, are one.
pub mod Firsts
-- In a sound store each argument that is relied on has a value, and what its run calls is demanded.
pub mod Demanded
-- A program that calls nothing which reaches its name closes no cycle.
pub mod NewCycles
-- The keep law: an accepted proposal takes nothing from anybody, and the next store is sound.
pub mod Keep
-- Two answers to one proposal are the same: the tests are made in an order, and an answer tells which were passed.
pub mod OneAnswer
-- A store that isn't sound has one reason.
pub mod OneReason
-- What a table of terms says of each of its rows.
pub mod Rows
-- What was got, and the first term that isn't given.
pub mod Misses
-- The answer to a proposal for a name that isn't published, and what acceptance keeps.
pub mod Fresh
-- The least argument that changes, of those that were met so far.
pub mod Least
-- The frames of a checked run hold what it relies on, and nothing else.
pub mod Frames
-- What a run calls, at any depth, is reached by a call of its text.
pub mod Traces
-- The checked runs in their order: what relies on an argument before one of them, and before the next.
pub mod Stages
-- The answer to a proposal for a published name.
pub mod Replaced
-- Runs with the old program and with the new one, side by side.
pub mod Sides
