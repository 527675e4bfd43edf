pub mod Templates
pub mod TemplateLaws
pub mod Transitions
pub mod StuckSets
pub mod Turns
pub mod Examples
