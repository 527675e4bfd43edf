pub mod Solving
pub mod Telling
