pub mod Turns
pub mod Replays
pub mod Replaying
pub mod Checking
pub mod Loading
pub mod Calling
pub mod Results
