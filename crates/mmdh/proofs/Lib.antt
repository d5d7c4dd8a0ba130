pub mod Laws
pub mod Texts
pub mod Follows
pub mod Turns
pub mod Whole
