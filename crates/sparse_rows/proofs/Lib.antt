pub mod Alls
pub mod NumberTests
pub mod Places
pub mod Adds
pub mod Added
pub mod SparseLemmas
pub mod MarkLemmas
pub mod WalkLemmas
