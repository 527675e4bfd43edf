pub mod NameLemmas
pub mod TextsLemmas
pub mod TableLemmas
