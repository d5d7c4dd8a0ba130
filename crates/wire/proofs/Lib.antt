pub mod Fields
pub mod Fronts
pub mod Signed
pub mod Cases
