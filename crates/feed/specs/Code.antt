-- What the code works with, and document 01 does not name: a reader of the promises can leave it out.
pub mod Judging
pub mod Numbers
