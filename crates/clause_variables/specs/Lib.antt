pub mod Terms
pub mod TermViews
pub mod Stacks
pub mod Occurring
