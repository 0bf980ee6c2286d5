pub mod History
pub mod Source
pub mod Desk
pub mod OneJournal
pub mod Report
