pub mod Blending
pub mod Adding
pub mod Sparse
pub mod Marks
pub mod Small
