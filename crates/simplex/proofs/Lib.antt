pub mod Holding
pub mod RowLists
pub mod TestLaws
pub mod WideTests
pub mod WideMultipliers
pub mod WidePoints
