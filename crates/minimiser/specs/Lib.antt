pub mod Cuts
pub mod Minimum
pub mod Laws
pub mod Given
