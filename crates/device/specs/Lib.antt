pub mod Answers
pub mod Device
pub mod Figures
pub mod Kinds
pub mod Seek
