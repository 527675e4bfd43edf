pub mod Chain
pub mod ChainKept
pub mod ChainLicences
pub mod ChainRows
pub mod ChainSteps
pub mod Runs
