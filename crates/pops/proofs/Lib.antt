pub mod Tracks
pub mod Five
