pub mod Tree
pub mod TreeCode
pub mod Rows
pub mod Joins
pub mod Nodes
pub mod Renaming
pub mod Cubes
pub mod Paths
