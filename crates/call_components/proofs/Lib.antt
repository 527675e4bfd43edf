pub mod Closing
mod Examples
pub mod Lists
pub mod MarkLaws
pub mod MemberLaws
pub mod Numberings
pub mod Partitions
pub mod Paths
pub mod Searches
pub mod Steps
pub mod Tables
