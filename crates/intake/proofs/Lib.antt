mod Taking
pub mod Memory
