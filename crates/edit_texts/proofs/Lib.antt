mod Answered
mod BuiltAlike
pub mod Clauses
mod EditLemmas
pub mod Lists
pub mod PlacedEdits
pub mod PlayLemmas
pub mod Staying
mod ToldLines
