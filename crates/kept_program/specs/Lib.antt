pub mod Kept
pub mod PartsCode
pub mod ProgramParts
pub mod Renewing
pub mod Untouched
