pub mod AllowedLaws
pub mod BreakingLaws
pub mod ComponentLaws
pub mod CoveringLaws
pub mod Depending
mod EmptyMode
pub mod FamilyLaws
pub mod MemberLaws
pub mod ModeLaws
pub mod PlaceLaws
pub mod RemoveLaws
pub mod RoundLaws
pub mod Searching
pub mod SettingLaws
pub mod StartLaws
