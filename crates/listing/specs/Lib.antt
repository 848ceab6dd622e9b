pub mod Entries
pub mod Listed
pub mod Lists
pub mod Parts
pub mod Sounds
