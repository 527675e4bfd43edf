pub mod Fits
pub mod Gcd
pub mod Sums
pub mod Natural
pub mod Fractions
