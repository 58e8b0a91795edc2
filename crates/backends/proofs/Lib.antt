pub mod Signed
pub mod Columns
pub mod Turns
pub mod Walk
pub mod Wanted
pub mod Segments
