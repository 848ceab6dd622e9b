pub mod Answered
pub mod Bytes
pub mod Kinds
pub mod Meaning
pub mod Names
pub mod Reading
pub mod Records
pub mod Tables
