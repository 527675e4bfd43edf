pub mod Assembly
pub mod Exact
pub mod Lists
pub mod Unnoted
