pub mod Sets
pub mod Missing
pub mod Marks
pub mod Components
pub mod Setting
