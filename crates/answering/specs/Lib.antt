pub mod Replied
pub mod Asking
