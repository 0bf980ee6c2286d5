-- Whether words have keys, the value behind a key, and a key that may stand once.
pub mod ReadWords
-- Which tasks the two grammars give.
pub mod Tasks
-- Words that ask for help are in no command's grammar.
pub mod Apart
