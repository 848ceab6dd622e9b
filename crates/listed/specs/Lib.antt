pub mod Figured
pub mod Listing
pub mod Soundness
