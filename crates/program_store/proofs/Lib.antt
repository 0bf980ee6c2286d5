-- A finite map made of the entries of a map of std.
pub mod Entries
-- Cutting bytes into lines, as a loop does.
pub mod WholeLines
-- Passing the lines of a file, as the loops over them do.
pub mod Cutting
-- The line of a text's first fault is one of its lines.
pub mod FaultLines
-- What is read of a section, from what is found of its header and its text.
pub mod Sectioned
-- Reading the sections of a file one after the other, as the loops do.
pub mod ReadLoops
-- The entries of a store in ascending order of their names, from a name on.
pub mod Rising
-- Printing the entries of a store one after the other, as the loop does.
pub mod PrintLoop
-- A header that was printed is read as the name and the count that it was printed of.
pub mod HeaderBack
-- The text of an entry is cut into the section that it was printed of.
pub mod SectionBack
-- The text of a store is read as that store.
pub mod StoreBack
-- Stores with one entry put in, and libraries with one program put in place.
pub mod Puts
