pub mod Allowed
pub mod Breaking
pub mod Greatest
pub mod Removing
pub mod Setting
pub mod Solving
pub mod Tables
