pub mod Spelling
pub mod RunLines
pub mod WholeRun
pub mod Left
