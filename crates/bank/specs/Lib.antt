pub mod Banks
pub mod States
