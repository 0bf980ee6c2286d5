pub mod Demand
pub mod Frames
pub mod Under
pub mod Values
pub mod Runs
pub mod Known
