-- so many cells are cleared
pub mod Clearing
-- composed texts that are small are programs, and mean what their forms say
pub mod Small
