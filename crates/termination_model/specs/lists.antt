pub mod Stuck
pub mod TurnLaws
pub mod TurnSystem
pub mod Turns
