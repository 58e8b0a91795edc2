pub mod Writing
pub mod Cutting
pub mod Walking
pub mod Places
pub mod Describing
