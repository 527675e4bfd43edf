pub mod Names
pub mod Texts
pub mod Table
pub mod Meanings
