pub mod Bounding
pub mod Claimed
pub mod NoList
pub mod Proved
pub mod Shape
pub mod Valid
