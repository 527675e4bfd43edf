pub mod Clauses
pub mod Coding
pub mod Terms
pub mod Symbols
pub mod Numbering
