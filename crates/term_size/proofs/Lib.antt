pub mod CountLaws
mod Examples
pub mod DotLaws
pub mod ListLaws
pub mod MemberLaws
pub mod RigidLaws
