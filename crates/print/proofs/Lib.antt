pub mod Put
pub mod Numbers
