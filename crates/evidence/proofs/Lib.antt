-- What a table knows of a published name, within the limit.
pub mod Known
-- The checked runs of a sound store.
pub mod Checked
-- Finished runs at some arguments, and at one more.
pub mod RunsAt
-- What an accepted program keeps, with ample steps.
pub mod Replaceable
-- Outcomes as they are told.
pub mod Outcomes
-- The proposed program at one more argument.
pub mod Least
-- The runs at the first arguments, and one more.
pub mod Tries
-- What the runs at the first arguments cost, beside the present program's.
pub mod Costs
-- What is answered to a proposal whose program was tried.
pub mod Weights
-- The proposed program at the demanded arguments.
pub mod Demanded
-- The replies to a proposal, with their finished runs and steps.
pub mod Replies
-- The frames of a dossier whose proposal was accepted fit the demand table of its snapshot.
mod FramesFit
