pub mod Present
pub mod Window
