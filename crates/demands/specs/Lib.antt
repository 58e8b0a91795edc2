pub mod Answers
pub mod Exchanges
pub mod Lending
