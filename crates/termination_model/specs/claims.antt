pub mod Claims
pub mod Descent
pub mod StatedFacts
pub mod Linking
pub mod Answered
pub mod Renumbered
pub mod Stronger
