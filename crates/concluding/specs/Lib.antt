pub mod Answered
pub mod Lending
