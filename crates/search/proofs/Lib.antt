pub mod Counting
pub mod Guarded
