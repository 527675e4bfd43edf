pub mod Greatest
pub mod Later
pub mod ModeLaws
pub mod Opened
pub mod Renewed
pub mod Same
