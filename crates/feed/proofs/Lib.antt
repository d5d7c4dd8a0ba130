pub mod Parts
pub mod Laws
pub mod Rows
pub mod Following
pub mod Framing
