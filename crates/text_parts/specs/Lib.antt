pub mod Blanks
pub mod Digits
pub mod Names
pub mod Results
