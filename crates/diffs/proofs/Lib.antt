pub mod Signed
pub mod Adding
