pub mod Closure
pub mod Callers
pub mod Groups
pub mod Walks
