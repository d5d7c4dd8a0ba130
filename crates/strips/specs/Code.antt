-- What the code works with, and document 02 does not name: a reader of the promises can leave it out.
pub mod Shapes
