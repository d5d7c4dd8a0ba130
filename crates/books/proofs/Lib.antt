pub mod Lawful
pub mod Turning
pub mod Showing
pub mod Sides
pub mod Frames
pub mod Emptying
pub mod Told
