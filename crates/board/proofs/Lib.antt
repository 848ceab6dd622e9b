pub mod Encoding
pub mod Landing
