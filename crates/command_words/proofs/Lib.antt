pub mod WordLemmas
pub mod QueryWords
pub mod StepLemmas
pub mod GeneratedWords
