pub mod Supplied
pub mod Sounds
pub mod Rounding
