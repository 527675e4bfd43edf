mod ArithmeticExamples
pub mod BelowLaws
pub mod Bounds
mod Examples
pub mod Lifting
pub mod MostGeneral
pub mod OneAnswer
pub mod Places
pub mod ResolveLaws
pub mod Spelled
pub mod Texts
pub mod Unifier
pub mod UnifyLaws
pub mod Wider
pub mod WorldLaws
