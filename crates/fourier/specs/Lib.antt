pub mod SolvedRows
pub mod Saying
pub mod History
pub mod Exceeding
pub mod Solves
