-- What was read at a path, as a status or as what stands in the file.
pub mod Opened
-- The files of a command, read one after the other.
pub mod Reading
-- Journals that take the jobs in order, and the desks of `publish` and of `mine`.
pub mod Journals
-- What a command writes is one function of the words and the files.
pub mod OneOutput
-- What each status says of a run.
pub mod Ends
-- How a run ends whose files are told, and the headlines.
pub mod Exact
-- How a run ends where only the first files are told.
pub mod First
-- Publishing made input from the empty store is not refused.
pub mod Unrefused
