pub mod AllKeptLaws
pub mod KeptListLaws
pub mod KeptProgramLaws
pub mod ProgramNames
pub mod UntouchedValues
