pub mod Border
pub mod Frames
pub mod Lines
