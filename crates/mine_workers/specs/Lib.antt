pub mod Accepting
pub mod JobSources
pub mod Supplies
pub mod Histories
pub mod Shared
pub mod Posts
pub mod Publishable
