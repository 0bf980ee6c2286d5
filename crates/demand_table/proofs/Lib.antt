-- How the number of things with a property changes when the property does.
pub mod Counts
-- Pairs are the same or not.
pub mod Pairs
-- The numbers of callers stay right where a run is taken out or put in.
pub mod Counted
-- Where nothing is left that nobody calls and no check needs, the runs that stand are the live ones.
pub mod Dead
-- What a change of one slot does to the others.
pub mod Loaded
-- One caller fewer for each pair on a list.
pub mod Lowering
-- One caller more for each pair on a list.
pub mod More
-- Totals are settled one after the other, down the calls.
pub mod Totals
-- From a table to the slots in which it is mended, and back.
pub mod Drawings
-- Frames are put in, one after the other.
pub mod Placing
-- The runs of a name are taken out, one after the other.
pub mod Clearing
-- The stages of mending, one after the other: from the old table to slots that can be dropped from, settled and drawn.
pub mod Whole
-- Totals are forgotten, one after the other.
pub mod Forgotten
-- Pairs of frames and nodes are listed.
pub mod Listed
-- What the nodes that slots are written down as have at an argument, and that they ascend.
pub mod Writing_down
-- Nodes are merged with those of slots, step by step.
pub mod Merge_steps
-- A table of some runs is a table of all runs of which they are a closed part.
pub mod Agreeing
-- A list of names that grows by the names that stand under its own.
pub mod Rising
-- Names that join the lists under the names that they call.
pub mod Reached
-- Slots that are written down as the nodes of folders.
pub mod Filing
-- The folders and the index after a replacement hold the mended table.
pub mod Holds
-- The table without names.
pub mod Empty
-- The arguments of the nodes that have callers are those that nodes call.
pub mod Calling
-- A search by halving in nodes that ascend.
pub mod Halving
-- What an entry says of a run, and that frames are the runs of their pairs.
pub mod Ran
-- Each direct call of a run with a value has a value in fewer steps, and the steps of the run are its own and theirs.
pub mod Below
-- What is live by the definition of drawing is live in the store.
pub mod Live
-- What a replacement leaves to others, in the words of the table.
pub mod Others
-- From the condition of a replacement to that of the table, and from the mended table to that of the next store.
pub mod Bridge
-- The runs of a store whose checked runs have values are closed, and their totals are numbers of 64 bits.
pub mod Closed
-- What is demanded is what a node calls.
pub mod Dem
-- A table from nothing, name after name.
pub mod Begin
-- The condition of a store, as the mending of its table asks it, and the table that comes of it.
pub mod Next
-- An accepted program may replace, and its runs are the frames.
pub mod May
-- What the look-ups of tables tell of the store.
pub mod Telling
-- What is gathered are live runs of the store, and with each its callees.
pub mod Gathers
-- The table of a store, from the runs that were gathered.
pub mod Built
-- Searching a pair that calls lead to.
pub mod Leads
-- A checked run demands a pair where calls of nodes lead to it.
pub mod Demanders
-- A store is copied name by name.
pub mod Copied
