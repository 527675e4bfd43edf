pub mod Moves
pub mod Complete
pub mod SoundClaims
pub mod Operands
pub mod Sound
pub mod First
pub mod Exact
pub mod Loads
pub mod DeepRuns
pub mod DeepExact
pub mod Walks
pub mod Maps
pub mod Parts
pub mod OneVerdict
mod ExampleTable
mod Examples
mod DepthExamples
mod TermExamples
pub mod Keeps
pub mod PlacesKept
