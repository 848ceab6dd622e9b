pub mod Faulty
pub mod Outcomes
pub mod Soundness
