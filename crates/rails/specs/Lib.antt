pub mod Supplied
pub mod Sounds
