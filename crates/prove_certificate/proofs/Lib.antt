pub mod RangeLemmas
pub mod TextLemmas
pub mod Examples
