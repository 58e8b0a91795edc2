pub mod Flat
pub mod Fixes
pub mod Call
pub mod Through
pub mod Answer
