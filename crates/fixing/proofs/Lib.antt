pub mod Left
pub mod Noting
pub mod Corrected
pub mod Slotting
