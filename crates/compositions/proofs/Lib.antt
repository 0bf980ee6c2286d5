-- memories inside of others, read and written at a moved_into
pub mod Place
-- a tree with direct cells does in other cells what it does in its own
pub mod Shifted
-- a balanced text and then another one; the tree of a loop
pub mod Sequence
-- a moved text: its tree, that its cells are within its greatest one, its balance
pub mod Texts
-- runs that are done, taken apart instruction by instruction, and put together
pub mod Steps
-- the linear form
pub mod Linear
-- the difference form
pub mod Difference
-- the sum form
pub mod Sum
