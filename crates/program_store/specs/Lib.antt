pub mod Store
pub mod Graph
pub mod Sections
pub mod Headers
pub mod Files
pub mod StoreText
pub mod Answers
