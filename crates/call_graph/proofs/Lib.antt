-- Paths of calls, and lists of names that are closed under them.
pub mod Paths
-- Lists that names are put in.
pub mod Sets
-- A list of names that grows by the calls of its names, in order.
pub mod Closing
-- A list of names that grows by the callers of its names, in order.
pub mod Upward
-- Names that don't reach a target.
pub mod Barren
-- What the loops over published names need, and callers of `first_through`.
pub mod Loops
-- Lists of callers, which grow by the calls of one name after the other.
pub mod Turning
-- Starts of groups that are cut, and groups that are joined.
pub mod Joining
-- Calls of a text that are followed one by one.
pub mod Following
-- The path of a walk, from its end.
pub mod Trails
-- A name that is entered.
pub mod Entering
-- A name whose calls have been followed up to a place, or all.
pub mod Leaving
-- A group that ends: its names are done.
pub mod Ending
-- A walk down the calls, turn by turn.
pub mod Walking
