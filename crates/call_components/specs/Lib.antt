pub mod Calls
pub mod Marked
pub mod Members
pub mod Numbers
pub mod Partition
pub mod Search
pub mod Table
