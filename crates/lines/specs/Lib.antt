pub mod Looks
pub mod Scraps
pub mod Promised
