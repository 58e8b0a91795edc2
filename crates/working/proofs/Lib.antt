pub mod Lending
pub mod Working
