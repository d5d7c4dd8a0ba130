pub mod Rule
pub mod Promised
