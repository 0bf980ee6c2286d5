-- digits from the front, with a number that stops at a limit; and how large a number of so many digits is
pub mod Number
-- how long a text is without its blanks and its carriage return
pub mod Shorter
-- the text of a name is read as that name
pub mod NameBack
