pub mod Loading
pub mod Settling
