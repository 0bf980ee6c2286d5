pub mod Cut
pub mod Items
pub mod Numbers
pub mod Table
pub mod Line
pub mod Stripped
pub mod Answers
pub mod Reading
