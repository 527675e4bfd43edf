pub mod Signs
pub mod Seen
pub mod Shapes
pub mod Definite
pub mod Texts
pub mod Predicates
