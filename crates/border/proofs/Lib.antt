pub mod Border
pub mod Frames
pub mod Contracts
pub mod Lines
