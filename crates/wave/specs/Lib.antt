pub mod Turns
pub mod Replays
pub mod Calls
