pub mod Recalled
pub mod Demanding
pub mod Turning
pub mod Examples
