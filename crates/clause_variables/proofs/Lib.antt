pub mod TermLemmas
pub mod OrderLemmas
pub mod ListLemmas
pub mod OccurringLemmas
pub mod CopyLemmas
