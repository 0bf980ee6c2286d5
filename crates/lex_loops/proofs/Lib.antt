-- What each instruction does to a run, from what its function does to the cells, the log and the marks.
pub mod Acts
-- Leaving out of a log the writes of cells that have an earlier one in it.
pub mod Forgetting
-- A run that goes on, step by step, to its stop.
pub mod Going
-- Cells, and logs of what writes replaced.
pub mod Memories
-- The steps of a run, as equations on the rest of it.
pub mod Runs
-- A machine at the start of its program.
pub mod Starts
