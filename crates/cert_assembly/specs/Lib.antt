pub mod Assembly
pub mod ChainNotes
pub mod ExactModes
pub mod Leading
pub mod Parted
pub mod Ranges
pub mod Sizing
pub mod Spelled
