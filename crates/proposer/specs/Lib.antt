pub mod Short
pub mod Proposed
