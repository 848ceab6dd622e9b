pub mod Fitting
pub mod Whole
