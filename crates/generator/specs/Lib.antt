pub mod Arithmetic
pub mod Names
pub mod Generating
