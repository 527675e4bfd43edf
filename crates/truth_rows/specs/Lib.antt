pub mod Ends
pub mod Sets
pub mod Rules
pub mod Ready
