pub mod Stores
pub mod Carries
pub mod Changed
pub mod Carrying
