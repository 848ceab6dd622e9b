pub mod Changed
pub mod Fresh
pub mod Putting
