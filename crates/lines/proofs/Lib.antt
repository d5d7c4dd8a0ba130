pub mod Copies
pub mod Fronts
pub mod Cases
pub mod Courses
