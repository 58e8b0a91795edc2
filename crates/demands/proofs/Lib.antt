pub mod Read
pub mod Demands
pub mod Lending
