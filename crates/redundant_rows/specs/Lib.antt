pub mod Projecting
pub mod Choosing
pub mod Sweeping
pub mod Negating
pub mod Multiples
pub mod Inserting
