pub mod Mutating
