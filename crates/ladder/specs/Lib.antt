pub mod Message
pub mod Sides
pub mod Walk
pub mod Words
pub mod Code
