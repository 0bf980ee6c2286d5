-- products of a difference, and their sign
pub mod Products
-- a and b of a line are found, and what is found is a line
pub mod Found
-- terms on a line have the key of the values
pub mod Scaled
-- one place of values and terms
pub mod Places
-- the first of lists
pub mod Firsts
-- rows under the keys of their terms and of their lines
pub mod Rows
