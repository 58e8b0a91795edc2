pub mod Fixes
pub mod Settle
pub mod Windows
