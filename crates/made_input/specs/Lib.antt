pub mod Programs
pub mod Values
pub mod Texts
