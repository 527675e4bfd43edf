pub mod ClaimLaws
pub mod Lawful
pub mod Made
pub mod Proved
