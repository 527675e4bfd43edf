pub mod AllKept
pub mod KeptLists
pub mod KeptPrograms
