pub mod Memories
pub mod State
pub mod Steps
pub mod Machines
