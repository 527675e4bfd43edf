pub mod Telling
pub mod Making
pub mod PolyLaws
pub mod Keeping
pub mod Filling
pub mod Remembering
