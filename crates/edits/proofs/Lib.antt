pub mod Edits
pub mod Swapped
pub mod InOrder
pub mod Buffers
pub mod Fronts
pub mod Masses
