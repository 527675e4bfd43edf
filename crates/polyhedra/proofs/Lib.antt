pub mod Remembered
pub mod Cores
pub mod Fitting
pub mod Targets
pub mod Keeps
