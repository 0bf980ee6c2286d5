pub mod Outputs
pub mod Answer
pub mod Run
pub mod Files
pub mod Endings
