pub mod Number
pub mod Units
pub mod Codes
