pub mod Origins
pub mod InsertionLemmas
pub mod MultipleLemmas
pub mod Appends
pub mod Cuts
pub mod RowLists
pub mod Sweeps
