pub mod EditViews
pub mod Edits
pub mod EditsFaults
pub mod Following
pub mod Playing
pub mod Snapshot
pub mod Told
