pub mod Accepted
pub mod Cases
pub mod Components
pub mod Large
pub mod Needed
pub mod Vanishing
pub mod Walk
pub mod Walked
