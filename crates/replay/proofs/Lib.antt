pub mod Turning
pub mod Rounding
pub mod Playing
