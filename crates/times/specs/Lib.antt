pub mod Meets
pub mod Fitted
pub mod Frontiers
