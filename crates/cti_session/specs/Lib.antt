pub mod Extending
pub mod Faults
pub mod Session
pub mod SnapshotCode
pub mod Stacks
