pub mod Text
pub mod Range
pub mod Lines
pub mod Reading
pub mod Parse
pub mod Shortening
