pub mod MachineLemmas
pub mod StackLemmas
pub mod WalkLemmas
