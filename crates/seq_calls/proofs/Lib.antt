-- A call costs a step: fewer are left where a machine calls.
pub mod Costs
-- What joined calls leave behind.
pub mod Joined
-- Runs of callees inside one another: what the innermost comes to, the callers go on with.
pub mod Unwind
-- What holds while frames run.
pub mod Under
-- Which value an outcome is.
pub mod Values
-- A run that has a value was answered by runs that have values.
pub mod Records
-- Runs of one library with other steps, and of the text that a name has.
pub mod Bounded
-- Two runs side by side whose callees come to the same values: the same direct calls, and the same steps of their own.
pub mod Own
-- Each direct call of a run with a value has a value in fewer steps, and the run used all those steps.
pub mod Below
-- What the finished runs of a run are.
pub mod Members
-- An argument that is relied on has a value, and what its run calls is demanded.
pub mod Relied
-- What a replaced program leaves to others: each run of another name that is relied on.
pub mod Stay
