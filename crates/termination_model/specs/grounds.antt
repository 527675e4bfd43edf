pub mod Grounds
pub mod LeastOver
pub mod Minimal
pub mod Modes
