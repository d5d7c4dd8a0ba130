pub mod Bools
pub mod Choices
pub mod Numbered
