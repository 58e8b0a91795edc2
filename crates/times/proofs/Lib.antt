pub mod Times
pub mod Frontiers
pub mod Inserting
pub mod First
pub mod Finding
