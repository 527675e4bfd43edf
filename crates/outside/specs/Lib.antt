pub mod Causes
pub mod Told
pub mod Held
pub mod Counted
pub mod KeptTexts
