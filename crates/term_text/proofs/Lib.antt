pub mod SpellingLemmas
pub mod LeftLemmas
pub mod RunningLemmas
mod Examples
