pub mod Lists
pub mod Blocks
pub mod Bits
pub mod Lawful
pub mod Keeps
pub mod Turning
pub mod Showing
pub mod Told
